use Rattle.std.proofs.Common.{ℕ, List, ◌≡◌, ◌<◌, ◌↔◌, sym, IsTrue, [], length, get_or, ap, subst, ◌∙◌, arith}
use Rattle.waitfor_check.specs.Accepted.{IsCalmAt}
use Rattle.waitfor_check.proofs.WaitLists.{calm_long, calm_more, calm_same}
use Rattle.waitfor_check.proofs.waits.calm_members.Goals as goal
use Rattle.waitfor_check.proofs.waits.calm_members.Goals.{then-is_calm+in_ok-push, else-is_calm}

pub loop-m-preserved : goal.loop-m-preserved
loop-m-preserved c =
    let lt : c.loop-m.m < length c.args.star.now.members = omega (arith, c.loop-m-test.true, c.len-m-end.ensures.count) in
    let is_calm = subst (λ (states : List ℕ). IsTrue c.is_calm.result ↔ IsCalmAt c.args.system.now c.args.star.now.shape states) c.at-states.ensures c.is_calm.ensures in
    elim c.if-is_calm.branch [
      | then-is_calm+in_ok-push w ↦ rw (w.calm-is, w.in_ok-push.ensures, c.at-states.ensures)
          (calm_more c.args.system.now c.args.star.now c.loop-m.m c.loop-m.calm c.requires.fits.sorted lt c.loop-m.invariant (is_calm.0 w.if-is_calm.true))
      | else-is_calm w ↦ rw w.calm-is
          (calm_same c.args.system.now c.args.star.now c.loop-m.m c.loop-m.calm lt c.loop-m.invariant (λ (ok : IsCalmAt c.args.system.now c.args.star.now.shape (get_or c.args.star.now.members c.loop-m.m [])). let never = is_calm.1 ok in cc))
    ]

pub push-requires-clause-same : goal.push-requires-clause-same
push-requires-clause-same c = calm_long c.args.system.now c.args.star.now c.loop-m.m c.loop-m.calm c.at-states.result.now c.loop-m.invariant c.requires.fits.states (subst (λ (states : List ℕ). length states ≡ length c.args.star.now.shape.leaves) (sym c.at-states.ensures) (c.requires.fits.states c.loop-m.m [] (omega (arith, c.loop-m-test.true, c.len-m-end.ensures.count))).count)
