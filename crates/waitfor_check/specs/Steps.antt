-- The steps of a star state, in their order: those of the centre arc by arc, and then those of the leaves.
use Rattle.std.specs.Prelude.{ℕ, ◌<◌, ◌==◌, cond, List, [], ◌++◌, length, map, filter, slice_index, slice_set}
use Rattle.std.specs.List.{flat_map, range_with_len}
use Rattle.pair_structure.specs.declared.side.Side.{Side}
use Rattle.pair_structure.specs.declared.side.Move.{Move}
use Rattle.pair_structure.specs.Ordinal.{leaves}
use Rattle.pair_structure.specs.Structure.{Structure, label_at}
use Rattle.pair_structure.specs.Sides.{local_of}
use Rattle.interconnection.specs.Shape.{ShapeParts}
use Rattle.conjunctive_compose.specs.System.{SystemParts}
use Rattle.pair_structure.specs.Parts.{role_at}
use Rattle.waitfor_check.specs.Choices.{choices}
use Rattle.waitfor_check.specs.Star.{arc_numbered, centre_at, centre_side, leaf_at, leaf_side, leaf_structure}

-- the states that this side moves to from s, in the structure's order
abbrev pub reached : Structure → Side → ℕ → List ℕ
reached m side s = map (λ (move : Move). move.to) (filter (leaves s side) m.moves)

-- and those at which this side's local state is q
abbrev pub reached_at : Structure → Side → ℕ → ℕ → List ℕ
reached_at m side q s = filter (λ t. local_of side (label_at m.states t) == q) (reached m side s)

abbrev pub places : ShapeParts → List ℕ
places shape = range_with_len 0 (length shape.leaves)

-- for each leaf the states that the centre's arc may reach
abbrev pub reached_by : SystemParts → ShapeParts → List ℕ → ℕ → List (List ℕ)
reached_by sys shape xs arc = map (λ i. reached_at (leaf_structure sys shape i) (centre_side shape i) (arc_numbered sys shape.role arc).to (slice_index xs i)) (places shape)

-- the arcs of the centre from its local state, in the role's order
abbrev pub centre_arcs : SystemParts → ShapeParts → List ℕ → List ℕ
centre_arcs sys shape xs = filter (λ arc. (arc_numbered sys shape.role arc).from == centre_at sys shape xs 0) (range_with_len 0 (length (role_at sys.network.roles shape.role).arcs))

abbrev pub centre_steps : SystemParts → ShapeParts → List ℕ → List (List ℕ)
centre_steps sys shape xs = flat_map (λ arc. choices (reached_by sys shape xs arc)) (centre_arcs sys shape xs)

abbrev pub leaf_steps : SystemParts → ShapeParts → List ℕ → List (List ℕ)
leaf_steps sys shape xs = flat_map (λ i. map (slice_set xs i) (reached (leaf_structure sys shape i) (leaf_side shape i) (slice_index xs i))) (places shape)

abbrev pub steps : SystemParts → ShapeParts → List ℕ → List (List ℕ)
steps sys shape xs = centre_steps sys shape xs ++ leaf_steps sys shape xs

-- the kinds of all leaves exist, and the centre's role
pub record HasKinds (sys : SystemParts) (shape : ShapeParts) : Type 0 where
  pub role : shape.role < length sys.network.roles
  pub kinds : (i : ℕ) → i < length shape.leaves → (leaf_at shape i).0 < length sys.network.ends

-- the centre's steps on one arc; there is none where the arc leaves another local state
abbrev pub steps_on : SystemParts → ShapeParts → List ℕ → ℕ → List (List ℕ)
steps_on sys shape xs arc = cond ((arc_numbered sys shape.role arc).from == centre_at sys shape xs 0) (choices (reached_by sys shape xs arc)) []
