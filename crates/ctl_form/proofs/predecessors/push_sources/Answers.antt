use Rattle.std.proofs.Common.{◌≡◌, ◌-◌, ◌<◌, suc, refl, subst, slice_index, length, arith}
use Rattle.ctl_form.specs.inside.Predecessors.{EndsAt}
use Rattle.ctl_form.proofs.PredecessorSteps.{AddsSources-push, EndsAt-self}
use Rattle.ctl_form.proofs.predecessors.push_sources.Goals as goal

pub loop-end-init : goal.loop-end-init
loop-end-init c = record { added = record { longer = omega arith; kept = λ k lt. refl; leads = λ k le lt. absurd (omega (arith, le, lt)); complete = λ j le lt e. absurd (c.requires.ends.none_later j le lt e) }; within = c.requires.ends.within; ends = EndsAt-self _ _ _ _ c.requires.ends }

pub loop-end-preserved : goal.loop-end-preserved
loop-end-preserved c =
    let place = c.loop-end.end - 1 in
    let is_last : suc (c.loop-end.end - 1) ≡ c.loop-end.end = omega (arith, c.loop-end-test.true) in
    let ends = c.loop-end.invariant.ends in
    let within : c.loop-end.end - 1 < length c.args.moves.now = omega (arith, is_last, c.loop-end.invariant.within) in
    let before = subst (λ t. EndsAt c.args.moves.now t (slice_index c.args.before.now (c.loop-end.end - 1)) (c.loop-end.end - 1)) (ends.last place is_last) (c.requires.linked place within) in
    rw c.in_ok-push.ensures.items (record {
      added = AddsSources-push _ _ _ _ _ _ is_last c.loop-end.invariant.within ends _ before c.loop-end.invariant.added;
      within = omega (arith, before.within, within);
      ends = EndsAt-self _ _ _ _ before;
    })
