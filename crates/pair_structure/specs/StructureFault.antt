-- Why states and moves are no structure over two roles, and which of the faults is the first.
use Rattle.std.specs.Prelude.{ℕ, ◌≡◌, ◌<◌, ◌≤◌, ◌+◌, ◌⊎◌, List, length}
use Rattle.pair_structure.specs.declared.side.Move.{Move}
use Rattle.pair_structure.specs.declared.structure_fault.StructureFault.{StructureFault}
use Rattle.pair_structure.specs.declared.structure_fault.StructureFault.TheVariants.{Empty, Start, LocalRange, MoveRange, NotAnArc, OtherSideMoved, NotRising, NoMove, Memory}
use Rattle.pair_structure.specs.First.{IsFirst}
pub use Rattle.pair_structure.specs.Parts.{move_at}
use Rattle.pair_structure.specs.Role.{RoleParts}
use Rattle.pair_structure.specs.Structure.{label_at, HaveStarts, IsLabel, TakesArc, OtherStays, IsBefore, Reaches}

-- the labels that a move leaves and reaches
abbrev pub label_from : List (ℕ × ℕ) → Move → ℕ × ℕ
label_from states move = label_at states move.from

abbrev pub label_to : List (ℕ × ℕ) → Move → ℕ × ℕ
label_to states move = label_at states move.to

-- the fault stands against these states and moves, at this place
abbrev pub Stands : RoleParts → RoleParts → List (ℕ × ℕ) → List Move → StructureFault → Type 0
Stands a b states moves Empty = length states ≡ 0
Stands a b states moves Start = HaveStarts a b states → ⊥
Stands a b states moves (LocalRange state) = (state < length states) × (IsLabel a b (label_at states state) → ⊥)
Stands a b states moves (MoveRange n) = (n < length moves) × ((length states ≤ (move_at moves n).from) ⊎ (length states ≤ (move_at moves n).to))
Stands a b states moves (NotAnArc n) = (n < length moves) × (TakesArc a.arcs b.arcs (move_at moves n).side (label_from states (move_at moves n)) (label_to states (move_at moves n)) → ⊥)
Stands a b states moves (OtherSideMoved n) = (n < length moves) × (OtherStays (move_at moves n).side (label_from states (move_at moves n)) (label_to states (move_at moves n)) → ⊥)
Stands a b states moves (NotRising n) = (n < length moves) × ((before : ℕ) × (before + 1 ≡ n) × (IsBefore (move_at moves before) (move_at moves n) → ⊥))
Stands a b states moves (NoMove state) = (state < length states) × ((t : ℕ) → Reaches (record { states = states; moves = moves }) state t → ⊥)
Stands a b states moves Memory = ⊥

-- the order of the kinds
abbrev pub kind_of : StructureFault → ℕ
kind_of Empty = 1
kind_of Start = 2
kind_of (LocalRange state) = 3
kind_of (MoveRange n) = 4
kind_of (NotAnArc n) = 5
kind_of (OtherSideMoved n) = 6
kind_of (NotRising n) = 7
kind_of (NoMove state) = 8
kind_of Memory = 9

-- of one kind the lowest number is the first
abbrev pub place_of : StructureFault → ℕ
place_of Empty = 0
place_of Start = 0
place_of (LocalRange state) = state
place_of (MoveRange n) = n
place_of (NotAnArc n) = n
place_of (OtherSideMoved n) = n
place_of (NotRising n) = n
place_of (NoMove state) = state
place_of Memory = 0

abbrev pub IsFirstStructureFault : RoleParts → RoleParts → List (ℕ × ℕ) → List Move → StructureFault → Type 0
IsFirstStructureFault a b states moves = IsFirst kind_of place_of (Stands a b states moves)
