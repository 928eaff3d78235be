use Rattle.std.proofs.Common.{ℕ, ◌<◌}
use Rattle.interconnection.specs.Network.{BeginsInStart, process_at}
use Rattle.interconnection.proofs.part_check.first_start_outside.Given as goal

abbrev pub invariant-loop-k : goal.invariant-loop-k
invariant-loop-k l = (before : ℕ) → before < l.k → BeginsInStart l.roles (process_at l.processes before)
