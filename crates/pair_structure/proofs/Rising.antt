-- Moves that rise.
use Rattle.std.proofs.Common.{ℕ, ◌<◌, ◌≤◌, ◌+◌, List, length, get_or, arith, inl, inr, ap}
use Rattle.std.specs.List.Sorted.{IsNonDecreasingBy}
use Rattle.std.proofs.lemmas.List.{get_or_default}
use Rattle.std.proofs.lemmas.List.Sorted.{IsNonDecreasingBy-from_all_adjacent}
use Rattle.pair_structure.specs.declared.side.Move.{Move}
use Rattle.pair_structure.specs.declared.side.Side.TheVariants.{A, B}
use Rattle.pair_structure.specs.declared.side.Side.{Side}
use Rattle.pair_structure.specs.Structure.{IsRising, IsBefore, side_number}
use Rattle.pair_structure.specs.inside.StructureCheck.{RisesAt}
use Rattle.pair_structure.specs.inside.Turn.{turn}

from_stays : (x y : Move) → IsBefore x y → x.from ≤ y.from
from_stays x y before = elim before [ inl lt ↦ omega (arith, lt) | inr same ↦ omega (arith, same.0) ]

-- later moves leave no lower states
pub from_rises : (moves : List Move) → IsRising moves → IsNonDecreasingBy (λ (m : Move). m.from) moves
from_rises moves rising =
    IsNonDecreasingBy-from_all_adjacent (λ (m : Move). m.from) moves (λ k d lt. from_stays (get_or moves k d) (get_or moves (k + 1) d) (rising k d lt))

pub IsRising-from_each : (moves : List Move) → ((n : ℕ) → n < length moves → RisesAt moves n) → IsRising moves
IsRising-from_each moves each k d lt = grind (arith, each (k + 1) lt k, get_or_default)

turn_rises : (x y : Move) → IsBefore x y → turn x.from x.side ≤ turn y.from y.side
turn_rises x y before = elim before [
  | inl lt ↦ omega (arith, lt, side_below x.side)
  | inr (same, later) ↦ elim later [ inl lt ↦ omega (arith, lt, same) | inr (same_side, lt) ↦ omega (arith, same, ap side_number same_side) ]
]
  where
    side_below : (side : Side) → side_number side ≤ 1
    side_below A = omega arith
    side_below B = omega arith

-- later moves have no lower turn
pub turns_rise : (moves : List Move) → IsRising moves → IsNonDecreasingBy (λ (m : Move). turn m.from m.side) moves
turns_rise moves rising =
    IsNonDecreasingBy-from_all_adjacent (λ (m : Move). turn m.from m.side) moves (λ k d lt. turn_rises (get_or moves k d) (get_or moves (k + 1) d) (rising k d lt))
