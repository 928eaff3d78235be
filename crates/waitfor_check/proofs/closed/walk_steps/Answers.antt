use Rattle.waitfor_check.specs.Steps.{centre_steps, leaf_steps}
use Rattle.waitfor_check.proofs.Walks.{members_more, missing_first, missing_second}
use Rattle.waitfor_check.proofs.closed.walk_steps.Goals as goal

pub returns-in-All-walk_leaves-clause-walked : goal.returns-in-All-walk_leaves-clause-walked
returns-in-All-walk_leaves-clause-walked c =
    let left = rw c.in-All.is at c.in_ok-count.ensures.walked in
    members_more c.args.star.now.members (centre_steps c.args.system.now c.args.star.now.shape c.args.states.now) (leaf_steps c.args.system.now c.args.star.now.shape c.args.states.now) c.in-All.count c.in-All-walk_leaves.more left c.in-All-walk_leaves.ensures.walked

pub returns-in-Missing-walk_leaves-clause-walked : goal.returns-in-Missing-walk_leaves-clause-walked
returns-in-Missing-walk_leaves-clause-walked c =
    let left = rw c.in-All.is at c.in_ok-count.ensures.walked in
    missing_second c.args.star.now.members (centre_steps c.args.system.now c.args.star.now.shape c.args.states.now) (leaf_steps c.args.system.now c.args.star.now.shape c.args.states.now) c.in-All.count c.in-Missing-walk_leaves.at left c.in-Missing-walk_leaves.ensures.walked

pub returns-in-Missing-clause-walked : goal.returns-in-Missing-clause-walked
returns-in-Missing-clause-walked c =
    let missing = rw c.in-Missing.is at c.in_ok-count.ensures.walked in
    missing_first c.args.star.now.members (centre_steps c.args.system.now c.args.star.now.shape c.args.states.now) (leaf_steps c.args.system.now c.args.star.now.shape c.args.states.now) c.in-Missing.at missing
