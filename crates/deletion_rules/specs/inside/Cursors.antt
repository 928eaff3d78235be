-- Cursors over lists: each has passed items of its list that carry a flag, and goes on from there.
use Rattle.std.specs.Prelude.{ℕ, ◌≡◌, ◌<◌, ◌≤◌, Bool, false, List, Contains, length, slice_index, slice_index_or}
use Rattle.tableau_graph.specs.TableauParts.{edges_at}

-- the flag of an item
abbrev pub flag_of : List Bool → ℕ → Bool
flag_of flags x = slice_index_or flags x false

-- each item of the list has a flag that is so
abbrev pub EachIs : List Bool → Bool → List ℕ → Type 0
EachIs flags value items = (x : ℕ) → Contains items x → flag_of flags x ≡ value

-- the flags of the first items are so
pub record HasPassed (items : List ℕ) (flags : List Bool) (value : Bool) (cursor : ℕ) : Type 0 where
  pub within : cursor ≤ length items
  pub passed : (k : ℕ) → k < cursor → flag_of flags (slice_index items k) ≡ value

-- a cursor for each of so many lists
pub record AreCursors (count : ℕ) (lists : List (List ℕ)) (flags : List Bool) (value : Bool) (cursors : List ℕ) : Type 0 where
  pub long : length cursors ≡ count
  pub each : (n : ℕ) → n < count → HasPassed (edges_at lists n) flags value (slice_index cursors n)
