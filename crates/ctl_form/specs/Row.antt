-- Rows of truth values, one for each state of a structure.
use Rattle.std.specs.Prelude.{ℕ, ◌≡◌, ◌<◌, ◌↔◌, Bool, true, false, List, length, slice_index_or}
use Rattle.pair_structure.specs.Structure.{Structure}
use Rattle.ctl_form.specs.Form.{Form}
use Rattle.ctl_form.specs.Truth.{Holds}

-- the row is true at this state
abbrev pub IsAt : List Bool → ℕ → Type 0
IsAt row s = slice_index_or row s false ≡ true

-- the row has a truth value for each of n states, true exactly where X holds
pub record IsRowOf (n : ℕ) (X : ℕ → Type 0) (row : List Bool) : Type 0 where
  pub long : length row ≡ n
  pub exact : (s : ℕ) → s < n → IsAt row s ↔ X s

-- the row has the truth of the formula at every state
abbrev pub IsTruthOf : Structure → Form → List Bool → Type 0
IsTruthOf m f row = IsRowOf (length m.states) (Holds m f) row
