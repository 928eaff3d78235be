-- Who may go on, and in which order all may.
use Rattle.std.specs.Prelude.{ℕ, ◌≡◌, ◌<◌, ◌==◌, ◌⊎◌, List, [], ◌∷◌, length, All, Contains, count_by}
use Rattle.pair_structure.specs.declared.side.Side.{Side}
use Rattle.interconnection.specs.Graph.{end_of, opposite}
use Rattle.conjunctive_compose.specs.System.{SystemParts, IsSystem, IsOn, edge_at, edge_count, process_count, role_of}
use Rattle.conjunctive_compose.specs.Whole.{WholeParts, IsProper, local_at}
use Rattle.conjunctive_compose.specs.Firing.{AllPermit, Moves, Permits, arc_of, fired}
use Rattle.conjunctive_compose.specs.declared.wish.Wish.{Wish}

-- this arc of process k leaves its local state
pub record IsLeaving (sys : SystemParts) (w : WholeParts) (k arc : ℕ) : Type 0 where
  pub within : arc < length (role_of sys k).arcs
  pub leaves : (arc_of sys k arc).from ≡ local_at w k

-- some arc of k from its local state is permitted by every neighbour
abbrev pub IsEnabled : SystemParts → WholeParts → ℕ → Type 0
IsEnabled sys w k = (arc : ℕ) × IsLeaving sys w k arc × AllPermit sys w k arc

-- k permits every arc from the local state of each of its neighbours
abbrev pub PermitsAll : SystemParts → WholeParts → ℕ → Type 0
PermitsAll sys w k = (e : ℕ) (side : Side) (arc : ℕ) → e < edge_count sys → IsOn sys k side e → IsLeaving sys w (end_of (edge_at sys e) (opposite side)) arc → Permits sys w (opposite side) arc e

-- every neighbour of k permits the arc, or is one of these
abbrev pub IsClear : SystemParts → WholeParts → (ℕ → Type 0) → ℕ → ℕ → Type 0
IsClear sys w Gone k arc = (e : ℕ) (side : Side) → e < edge_count sys → IsOn sys k side e → Permits sys w side arc e ⊎ Gone (end_of (edge_at sys e) (opposite side))

-- some arc of k from its local state is permitted by each neighbour that is not one of these
abbrev pub CanGoPast : SystemParts → WholeParts → (ℕ → Type 0) → ℕ → Type 0
CanGoPast sys w Gone k = (arc : ℕ) × IsLeaving sys w k arc × IsClear sys w Gone k arc

-- each in turn can go past the earlier ones and those before it
abbrev pub CanGoInTurn : SystemParts → WholeParts → List ℕ → List ℕ → Type 0
CanGoInTurn sys w earlier [] = Unit {0}
CanGoInTurn sys w earlier (k ∷ later) = CanGoPast sys w (Contains earlier) k × CanGoInTurn sys w (k ∷ earlier) later

-- the order has each process once, and each has an arc whose non-permitting neighbours all stand before it
pub record IsPeelOrder (sys : SystemParts) (w : WholeParts) (order : List ℕ) : Type 0 where
  pub within : All (λ k. k < process_count sys) order
  pub once : (k : ℕ) → k < process_count sys → count_by (λ j. j == k) order ≡ 1
  pub turns : CanGoInTurn sys w [] order

abbrev pub HasPeelOrder : SystemParts → WholeParts → Type 0
HasPeelOrder sys w = (order : List ℕ) × IsPeelOrder sys w order

-- where a process can go on after its firing, or permits all arcs of its neighbours, a peel order is left
abbrev pub FiringKeepsPeelOrder : Type 0
FiringKeepsPeelOrder = (sys : SystemParts) (w : WholeParts) (wish : Wish) → IsSystem sys → IsProper sys w → Moves sys w wish → HasPeelOrder sys w
    → IsEnabled sys (fired sys w wish) wish.process ⊎ PermitsAll sys (fired sys w wish) wish.process → HasPeelOrder sys (fired sys w wish)

-- with a peel order some process can go on, if there is one
abbrev pub PeelOrderEnables : Type 0
PeelOrderEnables = (sys : SystemParts) (w : WholeParts) → HasPeelOrder sys w → 0 < process_count sys → (k : ℕ) × (k < process_count sys) × IsEnabled sys w k
