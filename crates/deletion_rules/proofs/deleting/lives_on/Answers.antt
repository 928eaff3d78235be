use Rattle.std.proofs.Common.{arith}
use Rattle.deletion_rules.proofs.Within.{successor_below}
use Rattle.deletion_rules.proofs.deleting.lives_on.Goals as goal

pub bounds-ors-or : goal.bounds-ors-or
bounds-ors-or c = let lt = successor_below c.args.t.now c.tell_rules.ensures c.args.n c.loop-or.or-index c.successors-or-items.result.now c.requires.n c.successors-or-items.ensures c.loop-or-test.true in let long = c.requires.ors in omega (arith, lt, long)
