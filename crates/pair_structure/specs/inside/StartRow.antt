-- A row of start states: those of one start of side a.
use Rattle.std.specs.Prelude.{ℕ, ◌≡◌, ◌<◌, List, length, Some, slice_get}
use Rattle.pair_structure.specs.Role.{start_at}

-- the states begin with this start of side a and each of side b
abbrev pub IsRow : ℕ → List ℕ → List (ℕ × ℕ) → Type 0
IsRow p b states = (j : ℕ) → j < length b → slice_get states j ≡ Some (p, start_at b j)
