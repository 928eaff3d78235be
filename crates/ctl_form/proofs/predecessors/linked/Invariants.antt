use Rattle.ctl_form.specs.inside.Predecessors.{AreLinked}
use Rattle.ctl_form.proofs.predecessors.linked.Given as goal

abbrev pub invariant-loop-place : goal.invariant-loop-place
invariant-loop-place l = AreLinked l.states l.moves l.place l.ends.items l.before.items
