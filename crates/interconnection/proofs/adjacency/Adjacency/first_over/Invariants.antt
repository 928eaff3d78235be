use Rattle.std.proofs.Common.{ℕ, ◌<◌, ◌≤◌, length}
use Rattle.interconnection.specs.declared.limits.TheConstants.{MAX_NEIGHBOURS}
use Rattle.interconnection.specs.Around.{around_at}
use Rattle.interconnection.proofs.adjacency.Adjacency.first_over.Given as goal

abbrev pub invariant-loop-k : goal.invariant-loop-k
invariant-loop-k l = (before : ℕ) → before < l.k → length (around_at l.fn.self before).beside ≤ MAX_NEIGHBOURS
