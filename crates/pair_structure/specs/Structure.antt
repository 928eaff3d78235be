-- Pair structures: labelled states and moves, and what makes them a structure over two roles.
use Rattle.std.specs.Prelude.{ℕ, ◌≡◌, ◌<◌, ◌+◌, ◌*◌, ◌⊎◌, List, length, Contains, All, Some, slice_get, slice_index_or}
use Rattle.std.specs.List.{AllAdjacentBelow}
use Rattle.pair_structure.specs.declared.side.Side.{Side}
use Rattle.pair_structure.specs.declared.side.Side.TheVariants.{A, B}
use Rattle.pair_structure.specs.declared.side.Move.{Move}
use Rattle.pair_structure.specs.declared.side.LocalArc.{LocalArc}
use Rattle.pair_structure.specs.Role.{RoleParts, HasArc, start_at}

-- a structure as a value: the label of each state, a local state of side a and one of side b, and the moves
pub record Structure : Type 0 where
  pub states : List (ℕ × ℕ)
  pub moves : List Move

-- a move of this side leads from s to t
abbrev pub HasMove : Structure → Side → ℕ → ℕ → Type 0
HasMove m side s t = Contains m.moves (record { from = s; side = side; to = t })

-- a move of either side leads from s to t
abbrev pub Reaches : Structure → ℕ → ℕ → Type 0
Reaches m s t = HasMove m A s t ⊎ HasMove m B s t

-- moves lead from states to states, and each state has one
pub record GoesOn (m : Structure) : Type 0 where
  pub leaves : (side : Side) (s t : ℕ) → HasMove m side s t → s < length m.states
  pub within : (side : Side) (s t : ℕ) → HasMove m side s t → t < length m.states
  pub onward : (s : ℕ) → s < length m.states → (t : ℕ) × Reaches m s t

abbrev pub side_number : Side → ℕ
side_number A = 0
side_number B = 1

-- the order of moves: by from, then a before b, then to
abbrev pub IsBefore : Move → Move → Type 0
IsBefore x y = (x.from < y.from) ⊎ ((x.from ≡ y.from) × ((side_number x.side < side_number y.side) ⊎ ((x.side ≡ y.side) × (x.to < y.to))))

-- each move stands before the next, so that none stands twice
abbrev pub IsRising : List Move → Type 0
IsRising moves = AllAdjacentBelow IsBefore moves (length moves)

-- the label of a state
abbrev pub label_at : List (ℕ × ℕ) → ℕ → ℕ × ℕ
label_at states s = slice_index_or states s (0, 0)

-- the label's local states are among those of the roles
abbrev pub IsLabel : RoleParts → RoleParts → ℕ × ℕ → Type 0
IsLabel a b label = (label.0 < length a.locals) × (label.1 < length b.locals)

-- from one label to the other, this side takes an arc
abbrev pub TakesArc : List LocalArc → List LocalArc → Side → ℕ × ℕ → ℕ × ℕ → Type 0
TakesArc a b A from to = HasArc a from.0 to.0
TakesArc a b B from to = HasArc b from.1 to.1

-- from one label to the other, the side that does not move stays
abbrev pub OtherStays : Side → ℕ × ℕ → ℕ × ℕ → Type 0
OtherStays A from to = from.1 ≡ to.1
OtherStays B from to = from.0 ≡ to.0

-- a move joins two states; its side takes an arc, and the other side stays
pub record IsLawfulMove (a b : RoleParts) (states : List (ℕ × ℕ)) (move : Move) : Type 0 where
  pub from : move.from < length states
  pub to : move.to < length states
  pub arc : TakesArc a.arcs b.arcs move.side (label_at states move.from) (label_at states move.to)
  pub stays : OtherStays move.side (label_at states move.from) (label_at states move.to)

-- there is a start state for each start of a with each of b
abbrev pub start_count : RoleParts → RoleParts → ℕ
start_count a b = length a.starts * length b.starts

-- the start states come first: where b has n starts, the state i n + j is labelled with start i of a and start j of b
abbrev pub HaveStarts : RoleParts → RoleParts → List (ℕ × ℕ) → Type 0
HaveStarts a b states =
    (i j : ℕ) → i < length a.starts → j < length b.starts → slice_get states (i * length b.starts + j) ≡ Some (start_at a.starts i, start_at b.starts j)

-- states and moves are a structure over the roles: it begins in the start states, and each state has a move
pub record IsPairStructure (a b : RoleParts) (states : List (ℕ × ℕ)) (moves : List Move) : Type 0 where
  pub some : 0 < length states
  pub starts : HaveStarts a b states
  pub labels : All (IsLabel a b) states
  pub lawful : All (IsLawfulMove a b states) moves
  pub rising : IsRising moves
  pub goes_on : GoesOn (record { states = states; moves = moves })

abbrev pub IsOver : RoleParts → RoleParts → Structure → Type 0
IsOver a b m = IsPairStructure a b m.states m.moves
