use Rattle.interconnection.proofs.Besides.{AreEmpty-more}
use Rattle.interconnection.proofs.adjacency.Adjacency.without_edges.Goals as goal

pub loop-preserved : goal.loop-preserved
loop-preserved c = rw c.in_ok-push.ensures.items (AreEmpty-more c.loop.counter c.loop.each.items c.empty.result c.loop.invariant c.empty.ensures)
