-- Whether a side may take an arc.
use Rattle.std.proofs.Common.{ℕ, ◌≡◌, ◌↔◌, sym, subst, Any}
use Rattle.std.specs.Prelude.{filter}
use Rattle.pair_structure.specs.declared.side.Move.{Move}
use Rattle.pair_structure.specs.declared.side.LocalArc.{LocalArc}
use Rattle.pair_structure.specs.declared.side.Side.{Side}
use Rattle.pair_structure.specs.Ordinal.{leaves}
use Rattle.pair_structure.specs.Structure.{Structure, label_at}
use Rattle.pair_structure.specs.Sides.{local_of}
use Rattle.waitfor_check.specs.Star.{MayTake}
use Rattle.waitfor_check.proofs.StepLists.{map_contains, map_from, reached_from, reached_has}

-- it does exactly where it is there and some move leads to the arc's end
pub may_take_is : (m : Structure) (side : Side) (arc : LocalArc) (s : ℕ) → local_of side (label_at m.states s) ≡ arc.from → Any (λ (move : Move). local_of side (label_at m.states move.to) ≡ arc.to) (filter (leaves s side) m.moves) ↔ MayTake m side arc s
may_take_is m side arc s from = (to, back)
  where
    to : Any (λ (move : Move). local_of side (label_at m.states move.to) ≡ arc.to) (filter (leaves s side) m.moves) → MayTake m side arc s
    to (k, move, lt, is, leads) = (move.to, record { move = reached_from m side s move.to (map_contains (λ (move : Move). move.to) (filter (leaves s side) m.moves) move (k, lt, is)); from = from; to = leads })

    back : MayTake m side arc s → Any (λ (move : Move). local_of side (label_at m.states move.to) ≡ arc.to) (filter (leaves s side) m.moves)
    back (t, takes) =
        let found = map_from (λ (move : Move). move.to) (filter (leaves s side) m.moves) t (reached_has m side s t takes.move) in
        (found.1.0, found.0, found.1.1, found.1.2, subst (λ t. local_of side (label_at m.states t) ≡ arc.to) (sym found.2) takes.to)
