-- Stars: a process with some of its neighbours, the pair states that they may show, and their steps.
use Rattle.std.specs.Prelude.{ℕ, ◌≡◌, ◌<◌, ◌⊎◌, List, length, slice_index, slice_index_or, slice_set}
use Rattle.pair_structure.specs.declared.side.Side.{Side}
use Rattle.pair_structure.specs.declared.side.Side.TheVariants.{A}
use Rattle.pair_structure.specs.declared.side.LocalArc.{LocalArc}
use Rattle.pair_structure.specs.Parts.{arc_at}
use Rattle.pair_structure.specs.Structure.{Structure, HasMove, label_at}
use Rattle.pair_structure.specs.Sides.{local_of}
use Rattle.interconnection.specs.Graph.{opposite}
use Rattle.interconnection.specs.Network.{ends_of}
use Rattle.interconnection.specs.Shape.{ShapeParts}
use Rattle.conjunctive_compose.specs.System.{SystemParts, structure_of}
use Rattle.pair_structure.specs.Parts.{role_at}

abbrev pub leaf_at : ShapeParts → ℕ → ℕ × Side
leaf_at shape i = slice_index_or shape.leaves i (0, A)

-- of leaf number i: the pair's structure, and the sides of the centre and of the leaf
abbrev pub leaf_structure : SystemParts → ShapeParts → ℕ → Structure
leaf_structure sys shape i = structure_of sys.structures (leaf_at shape i).0

abbrev pub centre_side : ShapeParts → ℕ → Side
centre_side shape i = (leaf_at shape i).1

abbrev pub leaf_side : ShapeParts → ℕ → Side
leaf_side shape i = opposite (centre_side shape i)

abbrev pub arc_numbered : SystemParts → ℕ → ℕ → LocalArc
arc_numbered sys role arc = arc_at (role_at sys.network.roles role).arcs arc

-- the local state of the centre, as leaf number i shows it
abbrev pub centre_at : SystemParts → ShapeParts → List ℕ → ℕ → ℕ
centre_at sys shape xs i = local_of (centre_side shape i) (label_at (leaf_structure sys shape i).states (slice_index xs i))

-- each is the number of a state of its leaf's kind
abbrev pub AreInRange : SystemParts → ShapeParts → List ℕ → Type 0
AreInRange sys shape xs = (i : ℕ) → i < length shape.leaves → slice_index xs i < length (leaf_structure sys shape i).states

-- all leaves show the same local state of the centre
abbrev pub AllAgree : SystemParts → ShapeParts → List ℕ → Type 0
AllAgree sys shape xs = (i : ℕ) → i < length shape.leaves → centre_at sys shape xs i ≡ centre_at sys shape xs 0

-- one pair state a leaf, and all agree on the centre's local state
pub record IsStarState (sys : SystemParts) (shape : ShapeParts) (xs : List ℕ) : Type 0 where
  pub count : length xs ≡ length shape.leaves
  pub within : (i : ℕ) → i < length shape.leaves → slice_index xs i < length (leaf_structure sys shape i).states
  pub agree : (i : ℕ) → i < length shape.leaves → centre_at sys shape xs i ≡ centre_at sys shape xs 0

-- this side moves on the arc, from s to t
pub record TakesArc (m : Structure) (side : Side) (arc : LocalArc) (s t : ℕ) : Type 0 where
  pub move : HasMove m side s t
  pub from : local_of side (label_at m.states s) ≡ arc.from
  pub to : local_of side (label_at m.states t) ≡ arc.to

abbrev pub MayTake : Structure → Side → LocalArc → ℕ → Type 0
MayTake m side arc s = (t : ℕ) × TakesArc m side arc s t

-- the centre takes the arc in every leaf
pub record CentreStep (sys : SystemParts) (shape : ShapeParts) (arc : ℕ) (xs ys : List ℕ) : Type 0 where
  pub within : arc < length (role_at sys.network.roles shape.role).arcs
  pub before : length xs ≡ length shape.leaves
  pub behind : length ys ≡ length shape.leaves
  pub each : (i : ℕ) → i < length shape.leaves → TakesArc (leaf_structure sys shape i) (centre_side shape i) (arc_numbered sys shape.role arc) (slice_index xs i) (slice_index ys i)

-- leaf number i moves to t
pub record LeafStep (sys : SystemParts) (shape : ShapeParts) (i t : ℕ) (xs : List ℕ) : Type 0 where
  pub within : i < length shape.leaves
  pub move : HasMove (leaf_structure sys shape i) (leaf_side shape i) (slice_index xs i) t

abbrev pub IsStep : SystemParts → ShapeParts → List ℕ → List ℕ → Type 0
IsStep sys shape xs ys = ((arc : ℕ) × CentreStep sys shape arc xs ys) ⊎ ((i t : ℕ) × LeafStep sys shape i t xs × (slice_set xs i t ≡ ys))

-- all leaves permit the arc to the centre
abbrev pub AllTake : SystemParts → ShapeParts → LocalArc → List ℕ → Type 0
AllTake sys shape arc xs = (i : ℕ) → i < length shape.leaves → MayTake (leaf_structure sys shape i) (centre_side shape i) arc (slice_index xs i)

-- some arc of the centre is permitted by all leaves
abbrev pub CentreMayGo : SystemParts → ShapeParts → List ℕ → Type 0
CentreMayGo sys shape xs = (arc : ℕ) × (arc < length (role_at sys.network.roles shape.role).arcs) × ((i : ℕ) → i < length shape.leaves → MayTake (leaf_structure sys shape i) (centre_side shape i) (arc_numbered sys shape.role arc) (slice_index xs i))

-- the number of the role of the process in leaf i
abbrev pub leaf_role : SystemParts → ShapeParts → ℕ → ℕ
leaf_role sys shape i = local_of (leaf_side shape i) (ends_of sys.network.ends (leaf_at shape i).0)

-- the number of the role of the centre, as leaf i has it
abbrev pub centre_role : SystemParts → ShapeParts → ℕ → ℕ
centre_role sys shape i = local_of (centre_side shape i) (ends_of sys.network.ends (leaf_at shape i).0)

-- each of these arcs that leaves the side's local state is taken by some move
abbrev pub AllLeavingTaken : Structure → Side → List LocalArc → ℕ → Type 0
AllLeavingTaken m side arcs s = (arc : ℕ) → arc < length arcs → (arc_at arcs arc).from ≡ local_of side (label_at m.states s) → MayTake m side (arc_at arcs arc) s

-- the centre permits every arc from the local state of leaf number i
abbrev pub LeafMayGo : SystemParts → ShapeParts → ℕ → ℕ → Type 0
LeafMayGo sys shape i s = AllLeavingTaken (leaf_structure sys shape i) (leaf_side shape i) (role_at sys.network.roles (leaf_role sys shape i)).arcs s

-- the centre permits every arc from every leaf's local state
abbrev pub LeavesMayGo : SystemParts → ShapeParts → List ℕ → Type 0
LeavesMayGo sys shape xs = (i arc : ℕ) → i < length shape.leaves → arc < length (role_at sys.network.roles (leaf_role sys shape i)).arcs
    → (arc_numbered sys (leaf_role sys shape i) arc).from ≡ local_of (leaf_side shape i) (label_at (leaf_structure sys shape i).states (slice_index xs i))
    → MayTake (leaf_structure sys shape i) (leaf_side shape i) (arc_numbered sys (leaf_role sys shape i) arc) (slice_index xs i)
