-- How states are put into blocks by their labels.
use Rattle.std.specs.Prelude.{ℕ, ◌≡◌, ◌⊎◌, ◌<◌, cond, List, [], length, Contains, Some, None, slice_index, slice_index_or}
use Rattle.std.specs.BTreeMap.{BTreeMap, get, is_at}
use Rattle.std.specs.Ordering.{nat_cmp, ordering_then}
use Rattle.std.specs.declared.cmp.Ordering.{Ordering}
use Rattle.pair_structure.specs.Structure.{label_at}
use Rattle.pair_quotient.specs.inside.Splitting.{AreLed}

-- the order of labels
abbrev pub label_cmp : ℕ × ℕ → ℕ × ℕ → Ordering
label_cmp x y = ordering_then (nat_cmp x.0 y.0) (nat_cmp x.1 y.1)

-- a label that had a block keeps it; another gets the next one
pub record IsLabelPut (old : BTreeMap (ℕ × ℕ) ℕ) (label : ℕ × ℕ) (next : ℕ) (new : BTreeMap (ℕ × ℕ) ℕ) (n : ℕ) : Type 0 where
  pub here : get label_cmp new label ≡ Some n
  pub cases : ((get label_cmp old label ≡ Some n) × (new ≡ old)) ⊎ ((n ≡ next) × (get label_cmp old label ≡ None) × ((q : ℕ × ℕ) → get label_cmp new q ≡ cond (is_at (label_cmp label) q) (Some next) (get label_cmp old q)))

-- one more state is in the lists
pub record IsListedToo (block state : ℕ) (old new : List (List ℕ)) : Type 0 where
  pub here : Contains (slice_index_or new block []) state
  pub kept : (b s : ℕ) → Contains (slice_index_or old b []) s → Contains (slice_index_or new b []) s
  pub only : (b s : ℕ) → Contains (slice_index_or new b []) s → Contains (slice_index_or old b []) s ⊎ (state ≡ s)

-- the first n states are in blocks by their labels
pub record AreLabelled (labels : List (ℕ × ℕ)) (n : ℕ) (numbers : BTreeMap (ℕ × ℕ) ℕ) (classes leaders : List ℕ) (members : List (List ℕ)) : Type 0 where
  pub long : length classes ≡ n
  pub led : AreLed n classes leaders
  pub lists : length members ≡ length leaders
  pub in_range : (b s : ℕ) → Contains (slice_index_or members b []) s → s < n
  pub listed : (s : ℕ) → s < n → Contains (slice_index_or members (slice_index classes s) []) s
  pub named : (s : ℕ) → s < n → get label_cmp numbers (label_at labels s) ≡ Some (slice_index classes s)
  pub of : (l : ℕ × ℕ) (b : ℕ) → get label_cmp numbers l ≡ Some b → (b < length leaders) × (label_at labels (slice_index leaders b) ≡ l)
