use Rattle.ctl_form.proofs.Marks.{AreMarksBelow}
use Rattle.ctl_form.proofs.until_row.marked.Given as goal

abbrev pub invariant-loop-state : goal.invariant-loop-state
invariant-loop-state l = AreMarksBelow l.state l.row l.states.items
