-- Ordinals: equally labelled states are told apart by how many of them stand before.
use Rattle.std.specs.Prelude.{ℕ, ◌≡◌, ◌<◌, ◌==◌, ◌&&◌, Bool, true, false, List, length, count_by, take}
use Rattle.pair_structure.specs.declared.side.Side.{Side}
use Rattle.pair_structure.specs.declared.side.Side.TheVariants.{A, B}
use Rattle.pair_structure.specs.declared.side.Move.{Move}
use Rattle.pair_structure.specs.Structure.{label_at}

abbrev pub is_same_label : ℕ × ℕ → ℕ × ℕ → Bool
is_same_label x y = (x.0 == y.0) && (x.1 == y.1)

-- how many states with the label of this one have a lower number
abbrev pub ordinal_of : List (ℕ × ℕ) → ℕ → ℕ
ordinal_of states s = count_by (is_same_label (label_at states s)) (take s states)

-- s is the state with this label and this ordinal
pub record IsStateAt (states : List (ℕ × ℕ)) (label : ℕ × ℕ) (x s : ℕ) : Type 0 where
  pub within : s < length states
  pub label_is : label_at states s ≡ label
  pub ordinal_is : ordinal_of states s ≡ x

abbrev pub is_same_side : Side → Side → Bool
is_same_side A A = true
is_same_side A B = false
is_same_side B A = false
is_same_side B B = true

-- the move leaves this state by this side
abbrev pub leaves : ℕ → Side → Move → Bool
leaves s side move = (move.from == s) && is_same_side move.side side
