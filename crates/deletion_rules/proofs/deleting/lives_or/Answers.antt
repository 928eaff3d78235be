use Rattle.deletion_rules.proofs.Within.{child_below}
use Rattle.deletion_rules.proofs.deleting.lives_or.Goals as goal

pub bounds-lives-child : goal.bounds-lives-child
bounds-lives-child c = child_below c.args.t.now c.tell_rules.ensures c.args.or c.loop-child.child-index _ c.children-child-items.result.now c.requires.or c.children-child-items.ensures c.loop-child-test.true c.requires.lives
