-- The quotient of a structure by bisimulation.
use Rattle.std.specs.Prelude.{ℕ, ◌≡◌, ◌<◌, ◌↔◌, List, length, slice_index}
use Rattle.pair_structure.specs.declared.side.Side.{Side}
use Rattle.pair_structure.specs.Role.{RoleParts, IsRole}
use Rattle.pair_structure.specs.Structure.{Structure, HasMove, IsOver, label_at, start_count}
use Rattle.ctl_form.specs.Form.{Form}
use Rattle.ctl_form.specs.Truth.{Holds}
use Rattle.pair_quotient.specs.Bisimulation.{AreBisimilar}

-- a move of this side leads from a state of class c to one of class d
abbrev pub SomeMemberMoves : Structure → List ℕ → Side → ℕ → ℕ → Type 0
SomeMemberMoves m classes side c d = (s t : ℕ) × HasMove m side s t × (slice_index classes s ≡ c) × (slice_index classes t ≡ d)

-- s is the lowest member of class c, and each state before it is in a class with a lower number
pub record IsLowest (m : Structure) (classes : List ℕ) (c s : ℕ) : Type 0 where
  pub state : s < length m.states
  pub member : slice_index classes s ≡ c
  pub before : (t : ℕ) → t < s → slice_index classes t < c

-- q has one state for each class of bisimilar states of m, numbered by lowest members; a class has the label of its members, and a move
-- where one of its members has it
pub record IsQuotient (m : Structure) (classes : List ℕ) (q : Structure) : Type 0 where
  pub long : length classes ≡ length m.states
  pub within : (s : ℕ) → s < length m.states → slice_index classes s < length q.states
  pub lowest : (c : ℕ) → c < length q.states → (s : ℕ) × IsLowest m classes c s
  pub same : (s t : ℕ) → s < length m.states → t < length m.states → slice_index classes s ≡ slice_index classes t ↔ AreBisimilar m s t
  pub labels : (s : ℕ) → s < length m.states → label_at q.states (slice_index classes s) ≡ label_at m.states s
  pub moves : (side : Side) (c d : ℕ) → HasMove q side c d ↔ SomeMemberMoves m classes side c d

-- no two states are bisimilar
abbrev pub IsShrunk : Structure → Type 0
IsShrunk q = (c d : ℕ) → c < length q.states → d < length q.states → AreBisimilar q c d → c ≡ d

-- q is over the two roles too, and at each start state, which keeps its number, the same formulas hold
pub record KeepsStarts (a b : RoleParts) (m q : Structure) : Type 0 where
  pub over : IsOver a b q
  pub truth : (s : ℕ) → s < start_count a b → (f : Form) → Holds m f s ↔ Holds q f s

-- q is the quotient of m, no two states of it are bisimilar, and over each two roles it begins as m does
pub record IsShrinking (m q : Structure) : Type 0 where
  pub classes : List ℕ
  pub quotient : IsQuotient m classes q
  pub shrunk : IsShrunk q
  pub starts : (a b : RoleParts) → IsRole a → IsRole b → IsOver a b m → KeepsStarts a b m q
