use Rattle.std.proofs.Common.{[]}
use Rattle.deletion_rules.specs.inside.Thinning.{Loses}
use Rattle.deletion_rules.proofs.thinning.lose_parents.Given as goal

abbrev pub invariant-loop-node : goal.invariant-loop-node
invariant-loop-node l = Loses l.t l.initial.thinning [] l.thinning l.ors.items
