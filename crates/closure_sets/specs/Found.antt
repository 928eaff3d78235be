-- Rows that were found, in their order and as an ordered set.
use Rattle.std.specs.Prelude.{ℕ, ◌≡◌, ◌<◌, ◌^◌, List, length, map, slice_index, All}
use Rattle.std.specs.declared.cmp.Ordering.{Ordering}
use Rattle.std.specs.BTreeMap.{is_at}
use Rattle.std.specs.BTreeSet.{BTreeSet, contains}
use Rattle.std.specs.List.{list_any}
use Rattle.closure_sets.specs.Row.{Members, set_of}
use Rattle.closure_sets.specs.contracts.row.RowOrd.TheImpl as row_ord
use Rattle.closure_sets.specs.declared.row.Row.{Row}

-- rows compared as the set compares them
abbrev pub row_cmp : Row → Row → Ordering
row_cmp = (row_ord.ghosts).cmp

abbrev pub set_of_row : Row → Members
set_of_row row = set_of row.words

abbrev pub sets_of : List Row → List Members
sets_of rows = map set_of_row rows

-- eight words of 64 bits
pub record AreWords (words : List ℕ) : Type 0 where
  pub long : length words ≡ 8
  pub fit : (k : ℕ) → k < 8 → slice_index words k < 2 ^ 64

abbrev pub HasWords : Row → Type 0
HasWords row = AreWords row.words

-- the set has the rows of the list, and no others
pub record IsFound (rows : List Row) (known : BTreeSet Row) : Type 0 where
  pub words : All HasWords rows
  pub same : (row : Row) → contains row_cmp known row ≡ list_any (is_at (row_cmp row)) rows
