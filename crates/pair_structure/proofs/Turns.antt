-- The moves of a side from a state, by their turn.
use Rattle.std.proofs.Common.{ℕ, ◌≡◌, ◌<◌, ◌≤◌, ◌+◌, ◌==◌, true, false, List, length, get_or, take, drop, arith, filter, sym, ◌∙◌, ne_eqb, eq-eqb}
use Rattle.std.proofs.lemmas.Bool.Decides.{nat_tests}
use Rattle.std.proofs.lemmas.List.{get_or-drop, get_or-take, length-drop, length-take}
use Rattle.std.specs.List.Sorted.{IsNonDecreasingBy, IsPartitionPoint}
use Rattle.pair_structure.specs.declared.side.Move.{Move}
use Rattle.pair_structure.specs.declared.side.Side.{Side}
use Rattle.pair_structure.specs.declared.side.Side.TheVariants.{A, B}
use Rattle.pair_structure.specs.Ordinal.{leaves}
use Rattle.pair_structure.specs.inside.Turn.{turn}
use Rattle.pair_structure.proofs.Middle.{take_is_filter}

-- a move leaves a state by a side where its turn is theirs
leaves_by_turn : (state from : ℕ) (side side' : Side) (to : ℕ) → leaves state side (record { from = from; side = side'; to = to }) ≡ turn from side' == turn state side
leaves_by_turn state from A A to = grind (arith, nat_tests)
leaves_by_turn state from A B to = grind (arith, nat_tests)
leaves_by_turn state from B A to = grind (arith, nat_tests)
leaves_by_turn state from B B to = grind (arith, nat_tests)

-- of the moves from a place on that no earlier turn reaches, those that come by the turn
pub take_is_moves_of : (moves : List Move) (state : ℕ) (side : Side) (begin count : ℕ)
    → IsPartitionPoint (λ (m : Move). turn m.from m.side < turn state side) (λ (m : Move). turn state side ≤ turn m.from m.side) moves begin
    → IsPartitionPoint (λ (m : Move). turn m.from m.side ≤ turn state side) (λ (m : Move). turn state side < turn m.from m.side) (drop begin moves) count
    → count ≤ length (drop begin moves) → take count (drop begin moves) ≡ filter (leaves state side) moves
take_is_moves_of moves state side begin count earlier by within = take_is_filter (leaves state side) moves begin count
    (λ k d low lt. not_here (get_or moves k d) (λ same. omega (arith, earlier.0 k d low lt)))
    (λ k d low lt. here (get_or (drop begin moves) k d) (omega (arith, by.0 k d low lt, (rw (sym (get_or-drop begin moves k d)) at (earlier.1 (begin + k) d (omega arith) (omega (arith, length-drop begin moves)))))))
    (λ k d low lt. not_here (get_or (drop begin moves) k d) (λ same. omega (arith, by.1 k d low lt)))
  where
    here : (m : Move) → turn m.from m.side ≡ turn state side → leaves state side m ≡ true
    here m same = leaves_by_turn state m.from side m.side m.to ∙ eq-eqb _ _ same

    not_here : (m : Move) → (turn m.from m.side ≡ turn state side → ⊥) → leaves state side m ≡ false
    not_here m differ = leaves_by_turn state m.from side m.side m.to ∙ ne_eqb _ _ differ

-- where the first of the later turns is near, no other comes before it
pub near_is_point : (moves : List Move) (n near count : ℕ) → IsNonDecreasingBy (λ (m : Move). turn m.from m.side) moves → near ≤ length moves → count < near
    → IsPartitionPoint (λ (m : Move). turn m.from m.side ≤ n) (λ (m : Move). n < turn m.from m.side) (take near moves) count
    → IsPartitionPoint (λ (m : Move). turn m.from m.side ≤ n) (λ (m : Move). n < turn m.from m.side) moves count
near_is_point moves n near count rising within few point =
    (λ k d low lt. rw (sym (get_or-take near moves k d (omega arith))) (point.0 k d low lt), λ k d from lt. omega (arith, first d, rising count k d from lt))
  where
    first : (d : Move) → n < turn (get_or moves count d).from (get_or moves count d).side
    first d = rw (sym (get_or-take near moves count d few)) (point.1 count d (omega arith) (omega (arith, length-take near moves)))
