-- Lists of one length, side by side in one list.
use Rattle.std.specs.Prelude.{ℕ, ◌+◌, ◌*◌, List, map, slice_range}
use Rattle.std.specs.List.{range_with_len}

-- list number i, each having so many numbers
abbrev pub row_at : ℕ → List ℕ → ℕ → List ℕ
row_at width numbers i = slice_range numbers (i * width) (i * width + width)

-- the first n of them
abbrev pub rows_of : ℕ → ℕ → List ℕ → List (List ℕ)
rows_of width n numbers = map (row_at width numbers) (range_with_len 0 n)
