use Rattle.std.proofs.Common.{ℕ, ◌≡◌, [], length, get_or, arith, below_more, subst}
use Rattle.waitfor_check.specs.Steps.{steps}
use Rattle.waitfor_check.specs.inside.Walk.{AreMembers}
use Rattle.waitfor_check.proofs.closed.first_unclosed.Goals as goal

pub loop-m-preserved : goal.loop-m-preserved
loop-m-preserved c =
    let here = rw c.in-All.is at c.in_ok-walk_steps.ensures.walked in
    let stays = subst (λ states. AreMembers c.args.star.now.members (steps c.args.system.now c.args.star.now.shape states) c.in-All.count) c.at.ensures here in
    record { room = c.in_ok-walk_steps.ensures.room; stay = below_more _ _ c.loop-m.invariant.stay stays.all }

pub returns : goal.returns
returns c = λ member lt. c.loop-m.invariant.stay member (omega (arith, lt, c.loop-m-test.false, c.len-m-end.ensures.count))
