use Rattle.std.proofs.Common.{◌≡◌, arith, false, true, refl}
use Rattle.ctl_form.proofs.Marks.{AreMarksBelow-mark, AreMarksBelow-pass}
use Rattle.ctl_form.proofs.until_row.marked.Goals.{then-has+in_ok-push, else-has}
use Rattle.ctl_form.proofs.until_row.marked.Goals as goal

pub loop-state-preserved : goal.loop-state-preserved
loop-state-preserved c =
    elim c.if-has.branch [
      | then-has+in_ok-push w ↦ rw (w.states-is, w.in_ok-push.ensures.items) (AreMarksBelow-mark c.loop-state.state c.args.row.now c.loop-state.states.items (omega (arith, c.loop-state-test.true, c.len-state-end.ensures)) (w.if-has.ensures.0 refl) c.loop-state.invariant)
      | else-has w ↦ rw w.states-is (AreMarksBelow-pass _ _ _ (λ here. let no : false ≡ true = w.if-has.ensures.1 here in cc) c.loop-state.invariant)
    ]
