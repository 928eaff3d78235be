use Rattle.std.proofs.Common.{ℕ, ◌<◌}
use Rattle.interconnection.specs.Graph.{edge_at}
use Rattle.interconnection.specs.Network.{JoinsTwo}
use Rattle.interconnection.proofs.edge_check.first_self_edge.Given as goal

abbrev pub invariant-loop-e : goal.invariant-loop-e
invariant-loop-e l = (before : ℕ) → before < l.e → JoinsTwo (edge_at l.edges before)
