use Rattle.ctl_form.proofs.CursorSteps.{AreFirst}
use Rattle.ctl_form.proofs.cursors.first_moves.Given as goal

abbrev pub invariant-loop-place : goal.invariant-loop-place
invariant-loop-place l = AreFirst l.states l.moves l.place l.cursors.items

abbrev pub decreases-loop-place : goal.decreases-loop-place
decreases-loop-place l = l.place
