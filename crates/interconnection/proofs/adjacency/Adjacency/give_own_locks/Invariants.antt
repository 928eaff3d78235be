use Rattle.interconnection.specs.Around.{AreGivenBelow}
use Rattle.interconnection.proofs.adjacency.Adjacency.give_own_locks.Given as goal

abbrev pub invariant-loop-k : goal.invariant-loop-k
invariant-loop-k l = AreGivenBelow l.k l.edge_count l.fn.self l.self-inside.each.items
