use Rattle.std.proofs.Common.{arith}
use Rattle.waitfor_check.proofs.LeafRows.{leaf_rows_differ}
use Rattle.waitfor_check.proofs.Walks.{walked_bound}
use Rattle.waitfor_check.proofs.leaf.walk_leaf.Goals as goal

pub returns-clause-walked : goal.returns-clause-walked
returns-clause-walked c = rw (c.requires.target, c.leaf_moves-moves.ensures) at c.walk_moves-walked.ensures.walked

pub returns-clause-bounded : goal.returns-clause-bounded
returns-clause-bounded c =
    let walked = rw (c.requires.target, c.leaf_moves-moves.ensures) at c.walk_moves-walked.ensures.walked in
    walked_bound c.args.star.now.members _ c.walk_moves-walked.result (leaf_rows_differ c.args.system.now c.args.star.now.shape c.args.states.now c.args.i c.network-network.ensures.system c.requires.kinds c.requires.leaf (omega (arith, c.requires.leaf, c.requires.states.count))) walked
