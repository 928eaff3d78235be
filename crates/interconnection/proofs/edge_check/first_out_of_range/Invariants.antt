use Rattle.std.proofs.Common.{ℕ, ◌<◌}
use Rattle.interconnection.specs.Graph.{edge_at}
use Rattle.interconnection.specs.Network.{IsInRange}
use Rattle.interconnection.proofs.edge_check.first_out_of_range.Given as goal

abbrev pub invariant-loop-e : goal.invariant-loop-e
invariant-loop-e l = (before : ℕ) → before < l.e → IsInRange l.fn.ends l.fn.processes (edge_at l.edges before)
