-- Which processes are joined: a square number of them form a grid, any other number a ring. The lower number is side a.
use Rattle.std.specs.Prelude.{ℕ, ◌≡◌, ◌+◌, ◌-◌, ◌*◌, ◌%◌, ◌++◌, List, [], ◌∷◌, map, if◌then◌else◌, nat_lt}
use Rattle.std.specs.List.{flat_map, range_with_len}

-- a cell and the one after it in its row, if there is one
abbrev pub pair_along : ℕ → ℕ → List (ℕ × ℕ)
pair_along width cell = if nat_lt (cell % width + 1) width then (cell, cell + 1) ∷ [] else []

-- a cell and the one below it, if there is one
abbrev pub pair_down : ℕ → ℕ → ℕ → List (ℕ × ℕ)
pair_down width count cell = if nat_lt (cell + width) count then (cell, cell + width) ∷ [] else []

abbrev pub pairs_of_cell : ℕ → ℕ → ℕ → List (ℕ × ℕ)
pairs_of_cell width count cell = pair_along width cell ++ pair_down width count cell

-- the pairs of a grid of so many cells, cell by cell, row after row
abbrev pub grid_pairs : ℕ → ℕ → List (ℕ × ℕ)
grid_pairs width count = flat_map (pairs_of_cell width count) (range_with_len 0 count)

abbrev pub pair_on : ℕ → ℕ × ℕ
pair_on k = (k, k + 1)

-- the pairs of a ring: each process and the next, then the first and the last
abbrev pub ring_pairs : ℕ → List (ℕ × ℕ)
ring_pairs count = map pair_on (range_with_len 0 (count - 1)) ++ (0, count - 1) ∷ []

-- so many cells form a square of this width
abbrev pub IsWidth : ℕ → ℕ → Type 0
IsWidth count width = width * width ≡ count

pub record ArePairs (count : ℕ) (pairs : List (ℕ × ℕ)) : Type 0 where
  pub grid : (width : ℕ) → IsWidth count width → pairs ≡ grid_pairs width count
  pub ring : ((width : ℕ) → IsWidth count width → ⊥) → pairs ≡ ring_pairs count
