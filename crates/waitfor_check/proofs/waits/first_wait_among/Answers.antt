use Rattle.std.proofs.Common.{ℕ, ◌≡◌, ◌<◌, [], length, get_or, arith, ap, below_more, ◌∙◌, subst}
use Rattle.waitfor_check.specs.Steps.{centre_steps}
use Rattle.waitfor_check.specs.Waits.{centre_steps_at}
use Rattle.waitfor_check.specs.Closed.{IsFirstMissing}
use Rattle.waitfor_check.specs.inside.Walk.{AreMembers}
use Rattle.waitfor_check.proofs.WaitLists.{centre_stays, first_waits, steps_calm}
use Rattle.waitfor_check.proofs.waits.first_wait_among.Goals as goal

pub returns-in-Missing : goal.returns-in-Missing
returns-in-Missing c =
    let lt : c.loop-m.m < length c.args.star.now.members = omega (arith, c.loop-m-test.true, c.len-m-end.ensures.count) in
    let here = rw c.in-Missing.is at c.in_ok-walk_centre.ensures.walked in
    let here' = subst (λ shape. IsFirstMissing c.args.calm.now.members (centre_steps c.args.system.now shape c.at.result.now) c.in-Missing.at) c.requires.calm.shape here in
    let missing = subst (λ states. IsFirstMissing c.args.calm.now.members (centre_steps c.args.system.now c.args.star.now.shape states) c.in-Missing.at) c.at.ensures here' in
    let stay = centre_stays c.args.system.now c.args.star.now c.loop-m.m (c.requires.closed c.loop-m.m lt) in
    (lt, first_waits c.args.system.now c.args.star.now c.args.calm.now.members (centre_steps_at c.args.system.now c.args.star.now c.loop-m.m) (length c.args.star.now.members) c.in-Missing.at c.requires.calm.members stay missing, c.loop-m.invariant.stay)

pub loop-m-preserved : goal.loop-m-preserved
loop-m-preserved c =
    let here = rw c.in-All.is at c.in_ok-walk_centre.ensures.walked in
    let here' = subst (λ shape. AreMembers c.args.calm.now.members (centre_steps c.args.system.now shape c.at.result.now) c.in-All.count) c.requires.calm.shape here in
    let all = subst (λ states. AreMembers c.args.calm.now.members (centre_steps c.args.system.now c.args.star.now.shape states) c.in-All.count) c.at.ensures here' in
    record {
      room = c.in_ok-walk_centre.ensures.room;
      stay = below_more _ _ c.loop-m.invariant.stay (steps_calm c.args.system.now c.args.star.now c.args.calm.now.members (centre_steps_at c.args.system.now c.args.star.now c.loop-m.m) (length c.args.star.now.members) c.in-All.count c.requires.calm.members all);
    }

pub returns : goal.returns
returns c = λ member lt. c.loop-m.invariant.stay member (omega (arith, lt, c.loop-m-test.false, c.len-m-end.ensures.count))
