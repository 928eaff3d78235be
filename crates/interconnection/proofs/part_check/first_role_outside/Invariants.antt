use Rattle.std.proofs.Common.{ℕ, ◌<◌}
use Rattle.interconnection.specs.Network.{role_of}
use Rattle.interconnection.proofs.part_check.first_role_outside.Given as goal

abbrev pub invariant-loop-k : goal.invariant-loop-k
invariant-loop-k l = (before : ℕ) → before < l.k → role_of l.processes before < l.roles
