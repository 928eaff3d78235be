use Rattle.deletion_rules.specs.Targets.{AreTargets}
use Rattle.deletion_rules.proofs.target.targets_of.Given as goal

abbrev pub invariant-loop-member : goal.invariant-loop-member
invariant-loop-member l = AreTargets l.c l.member l.targets.items
