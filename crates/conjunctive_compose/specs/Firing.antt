-- One firing.
use Rattle.std.specs.Prelude.{ℕ, ◌≡◌, ◌≢◌, ◌<◌, Option, Some, None, List, length, map, Any, slice_set}
use Rattle.std.specs.List.{range_with_len}
use Rattle.pair_structure.specs.declared.side.Side.{Side}
use Rattle.pair_structure.specs.declared.side.LocalArc.{LocalArc}
use Rattle.pair_structure.specs.Parts.{arc_at}
use Rattle.skeleton_extract.specs.declared.command.Command.{Command}
use Rattle.skeleton_extract.specs.Commands.{commands_of}
use Rattle.skeleton_extract.specs.Permission.{permitted_of, picked}
use Rattle.interconnection.specs.Graph.{end_of}
use Rattle.pair_structure.specs.Sides.{opposite}
use Rattle.conjunctive_compose.specs.declared.wish.StepAnswer.{StepAnswer}
use Rattle.conjunctive_compose.specs.declared.wish.StepAnswer.TheVariants.{Moved, Away, Blocked}
use Rattle.conjunctive_compose.specs.declared.wish.Wish.{Wish}
use Rattle.conjunctive_compose.specs.System.{SystemParts, IsOn, edge_at, edge_count, lists_at, process_count, role_of, side_on}
use Rattle.conjunctive_compose.specs.Whole.{WholeParts, local_at, value_at}

abbrev pub arc_of : SystemParts → ℕ → ℕ → LocalArc
arc_of sys k arc = arc_at (role_of sys k).arcs arc

-- the process exists, and its role has the arc
pub record Fits (sys : SystemParts) (process arc : ℕ) : Type 0 where
  pub process_in : process < process_count sys
  pub arc_in : arc < length (role_of sys process).arcs

abbrev pub WishFits : SystemParts → Wish → Type 0
WishFits sys wish = Fits sys wish.process wish.arc

-- the local state of the process on the other side of edge e
abbrev pub across : SystemParts → WholeParts → Side → ℕ → ℕ
across sys w side e = local_at w (end_of (edge_at sys e) (opposite side))

-- the process on the other side of edge e permits the arc to the one on this side: some command names its local state and the edge's value
abbrev pub Permits : SystemParts → WholeParts → Side → ℕ → ℕ → Type 0
Permits sys w side arc e = Any (λ (c : Command). (c.other ≡ across sys w side e) × (c.x ≡ value_at w e)) (commands_of (lists_at sys e) side arc)

-- the commands that name them, in their order
abbrev pub permitted : SystemParts → WholeParts → Side → ℕ → ℕ → List Command
permitted sys w side arc e = permitted_of (commands_of (lists_at sys e) side arc) (across sys w side e) (value_at w e)

-- every neighbour of k permits the arc
abbrev pub AllPermit : SystemParts → WholeParts → ℕ → ℕ → Type 0
AllPermit sys w k arc = (e : ℕ) (side : Side) → e < edge_count sys → IsOn sys k side e → Permits sys w side arc e

-- the wish moves
pub record Moves (sys : SystemParts) (w : WholeParts) (wish : Wish) : Type 0 where
  pub fits : WishFits sys wish
  pub leaves : (arc_of sys wish.process wish.arc).from ≡ local_at w wish.process
  pub permit : AllPermit sys w wish.process wish.arc

-- the value of edge e after the firing of a process that is on this side of it, or on none
abbrev pub value_by : SystemParts → WholeParts → Wish → ℕ → Option Side → ℕ
value_by sys w wish e None = value_at w e
value_by sys w wish e (Some side) = (picked (permitted sys w side wish.arc e) wish.pick).set

abbrev pub value_after : SystemParts → WholeParts → Wish → ℕ → ℕ
value_after sys w wish e = value_by sys w wish e (side_on (edge_at sys e) wish.process)

-- the whole state after a firing
abbrev pub fired : SystemParts → WholeParts → Wish → WholeParts
fired sys w wish = record {
  locals = slice_set w.locals wish.process (arc_of sys wish.process wish.arc).to;
  shared = map (value_after sys w wish) (range_with_len 0 (length w.shared));
}

-- the whole state with the values that the firing sets, before the process takes the arc
abbrev pub with_values : SystemParts → WholeParts → Wish → WholeParts
with_values sys w wish = record { locals = w.locals; shared = map (value_after sys w wish) (range_with_len 0 (length w.shared)) }

-- neighbour j does not permit the arc
abbrev pub Blocks : SystemParts → WholeParts → Wish → ℕ → Type 0
Blocks sys w wish j = (e : ℕ) × (side : Side) × (e < edge_count sys) × IsOn sys wish.process side e × (end_of (edge_at sys e) (opposite side) ≡ j) × (Permits sys w side wish.arc e → ⊥)

-- the lowest neighbour that does not
abbrev pub IsFirstBlocker : SystemParts → WholeParts → Wish → ℕ → Type 0
IsFirstBlocker sys w wish j = Blocks sys w wish j × ((i : ℕ) → i < j → Blocks sys w wish i → ⊥)

-- what a wish is answered, and the whole state after it
abbrev pub IsAnswer : SystemParts → WholeParts → Wish → StepAnswer → WholeParts → Type 0
IsAnswer sys w wish Moved v = Moves sys w wish × (v ≡ fired sys w wish)
IsAnswer sys w wish (Away local) v = (local ≡ local_at w wish.process) × ((arc_of sys wish.process wish.arc).from ≢ local) × (v ≡ w)
IsAnswer sys w wish (Blocked j) v = ((arc_of sys wish.process wish.arc).from ≡ local_at w wish.process) × IsFirstBlocker sys w wish j × (v ≡ w)
