-- What is checked of the states and moves of a structure, one after another, in the order of the faults.
use Rattle.std.specs.Prelude.{ℕ, ◌≡◌, ◌<◌, ◌+◌, List, length, Any}
use Rattle.pair_structure.specs.declared.side.LocalArc.{LocalArc}
use Rattle.pair_structure.specs.declared.side.Move.{Move}
use Rattle.pair_structure.specs.Role.{RoleParts}
use Rattle.pair_structure.specs.Structure.{label_at, HaveStarts, TakesArc, OtherStays, IsBefore}
use Rattle.pair_structure.specs.StructureFault.{move_at, label_from, label_to}

-- the label of the state is within so many local states of each side
abbrev pub IsLabelBelow : ℕ → ℕ → List (ℕ × ℕ) → ℕ → Type 0
IsLabelBelow a b states state = ((label_at states state).0 < a) × ((label_at states state).1 < b)

-- the ends of the move are among so many states
abbrev pub IsInRange : ℕ → List Move → ℕ → Type 0
IsInRange count moves n = ((move_at moves n).from < count) × ((move_at moves n).to < count)

abbrev pub FollowsArc : List LocalArc → List LocalArc → List (ℕ × ℕ) → List Move → ℕ → Type 0
FollowsArc a b states moves n = TakesArc a b (move_at moves n).side (label_from states (move_at moves n)) (label_to states (move_at moves n))

abbrev pub KeepsOther : List (ℕ × ℕ) → List Move → ℕ → Type 0
KeepsOther states moves n = OtherStays (move_at moves n).side (label_from states (move_at moves n)) (label_to states (move_at moves n))

-- the move comes after the one before it
abbrev pub RisesAt : List Move → ℕ → Type 0
RisesAt moves n = (before : ℕ) → before + 1 ≡ n → IsBefore (move_at moves before) (move_at moves n)

-- some move leaves the state
abbrev pub IsLeft : List Move → ℕ → Type 0
IsLeft moves state = Any (λ (move : Move). move.from ≡ state) moves

-- there is a state; the start states come first, and each state has a label
pub record AreLabelled (a b : RoleParts) (states : List (ℕ × ℕ)) : Type 0 where
  pub some : 0 < length states
  pub starts : HaveStarts a b states
  pub labels : (s : ℕ) → s < length states → IsLabelBelow (length a.locals) (length b.locals) states s

-- each move is lawful, and comes after the one before it
pub record AreMoves (a b : RoleParts) (states : List (ℕ × ℕ)) (moves : List Move) : Type 0 where
  pub range : (n : ℕ) → n < length moves → IsInRange (length states) moves n
  pub arcs : (n : ℕ) → n < length moves → FollowsArc a.arcs b.arcs states moves n
  pub stays : (n : ℕ) → n < length moves → KeepsOther states moves n
  pub rising : (n : ℕ) → n < length moves → RisesAt moves n
