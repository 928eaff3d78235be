use Rattle.interconnection.specs.Around.{AreEmpty}
use Rattle.interconnection.proofs.adjacency.Adjacency.without_edges.Given as goal

abbrev pub invariant-loop : goal.invariant-loop
invariant-loop l = AreEmpty l.counter l.each.items
