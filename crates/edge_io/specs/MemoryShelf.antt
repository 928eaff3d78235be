-- What a shelf in memory has, and what its next call answers.
use Rattle.std.specs.Prelude.{ℕ, ◌⊎◌, List, map, Contains, IsNone, Result, string_bytes, String, Vec}
use Rattle.std.specs.declared.alloc.Global.{Global}
use Rattle.edge_io.specs.declared.counts.ShelfCounts.{ShelfCounts}
use Rattle.edge_io.specs.declared.shelf.ShelfFault.{ShelfFault}
use Rattle.edge_io.specs.Counts.{next_count, counts_after}
use Rattle.edge_io.specs.Told.{file_named, HasLonger}

-- the files by name, which calls fail by their number, how many were made, and the counts
pub record ShelfState : Type 0 where
  pub files : List (List ℕ × List ℕ)
  pub failing : List ℕ
  pub calls : ℕ
  pub counts : ShelfCounts

-- files as their names and bytes
abbrev pub files_of : List (String Global × Vec ℕ Global) → List (List ℕ × List ℕ)
files_of = map (λ file. (string_bytes file.0, file.1.items))

-- the next call fails: its number is a failing one, or no file has the name
abbrev pub Fails : ShelfState → List ℕ → Type 0
Fails shelf name = Contains shelf.failing shelf.calls ⊎ IsNone (file_named shelf.files name)

-- the next call does not fail, and the file has more than `max` bytes
abbrev pub FindsLong : ShelfState → List ℕ → ℕ → Type 0
FindsLong shelf name max = ¬ Contains shelf.failing shelf.calls × HasLonger shelf.files name max

-- the shelf after a call with this answer
abbrev pub after_take : ShelfState → Result (Unit {0}) ShelfFault → ShelfState
after_take shelf answer =
    record shelf { calls = next_count shelf.calls; counts = counts_after shelf.counts answer }
