use Rattle.std.proofs.Common.{ℕ, ◌≡◌, ◌<◌, Some, slice_get}
use Rattle.pair_structure.specs.Role.{start_at}
use Rattle.pair_structure.proofs.start_check.begins_row.Given as goal

abbrev pub invariant-loop-j : goal.invariant-loop-j
invariant-loop-j l = (k : ℕ) → k < l.j → slice_get l.states k ≡ Some (l.a, start_at l.b k)
