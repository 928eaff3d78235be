-- The locks that a firing takes, and those that a view holds of them.
use Rattle.std.specs.Prelude.{◌≡◌, ◌≢◌, ℕ, ◌<◌, ◌≤◌, ◌↔◌, List, [], length, slice_index}
use Rattle.conjunctive_compose.specs.System.{SystemParts}
use Rattle.firing_words.specs.declared.cell.Reading.{Reading}
use Rattle.firing_words.specs.declared.view.View.{View}
use Rattle.firing_words.specs.Cells.{Guards, InPlan, lock_count}
use Rattle.firing_words.specs.Lists.{Has}

-- the locks of the plan of process k, each once
pub record IsPlan (sys : SystemParts) (k : ℕ) (plan : List ℕ) : Type 0 where
  pub below : (i : ℕ) → i < length plan → slice_index plan i < lock_count sys
  pub distinct : (i j : ℕ) → i < j → j < length plan → slice_index plan i ≢ slice_index plan j
  pub exactly : (l : ℕ) → Has l plan ↔ InPlan sys k l

abbrev pub HoldsOnly : View → List ℕ → Type 0
HoldsOnly v ls = (l : ℕ) → Has l v.held ↔ Has l ls

abbrev pub IsBare : View → Type 0
IsBare v = (v.known ≡ []) × (v.owed ≡ [])

-- what is held are the locks of the plan from place i up to place n
pub record LeftOf (v : View) (plan : List ℕ) (i n : ℕ) : Type 0 where
  pub from : (l : ℕ) → Has l v.held → (j : ℕ) × (i ≤ j) × (j < n) × (slice_index plan j ≡ l)
  pub to : (j : ℕ) → i ≤ j → j < n → Has (slice_index plan j) v.held

-- what is known is known under a lock that is held
abbrev pub KnowsHeld : SystemParts → View → Type 0
KnowsHeld sys v = (r : Reading) → Has r v.known → (l : ℕ) × Guards sys r.cell l × Has l v.held
