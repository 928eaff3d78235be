use Rattle.ctl_form.specs.Predecessors.{ArePartsOf}
use Rattle.ctl_form.proofs.predecessors.Predecessors.of.Given as goal

abbrev pub invariant-loop-state : goal.invariant-loop-state
invariant-loop-state l = ArePartsOf l.m l.state l.made.begins.items l.made.sources.items
