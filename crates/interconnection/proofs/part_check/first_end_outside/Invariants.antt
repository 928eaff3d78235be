use Rattle.std.proofs.Common.{ℕ, ◌<◌}
use Rattle.interconnection.specs.Network.{ends_of}
use Rattle.interconnection.proofs.part_check.first_end_outside.Given as goal

abbrev pub invariant-loop-kind : goal.invariant-loop-kind
invariant-loop-kind l = (before : ℕ) → before < l.kind → ((ends_of l.ends before).0 < l.roles) × ((ends_of l.ends before).1 < l.roles)
