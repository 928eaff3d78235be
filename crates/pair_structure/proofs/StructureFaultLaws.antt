-- Which fault of states and moves is the first, and that without one they are a structure.
use Rattle.std.proofs.Common.{ℕ, zero, suc, ◌≡◌, ◌<◌, ◌+◌, List, length, arith, subst, inl, inr, refl}
use Rattle.std.proofs.lemmas.Bool.{cases_lt}
use Rattle.std.proofs.lemmas.List.{get_or_default}
use Rattle.pair_structure.specs.declared.side.Move.{Move}
use Rattle.pair_structure.specs.declared.side.Side.TheVariants.{A}
use Rattle.pair_structure.specs.declared.structure_fault.StructureFault.{StructureFault}
use Rattle.pair_structure.specs.declared.structure_fault.StructureFault.TheVariants.{Empty, Start, LocalRange, MoveRange, NotAnArc, OtherSideMoved, NotRising, NoMove, Memory}
use Rattle.pair_structure.specs.First.{ComesFirst}
use Rattle.pair_structure.specs.Role.{RoleParts}
use Rattle.pair_structure.specs.Structure.{IsBefore, IsLawfulMove, IsPairStructure}
use Rattle.pair_structure.specs.inside.StructureCheck.{AreLabelled, AreMoves, RisesAt, IsLeft}
use Rattle.pair_structure.specs.StructureFault.{Stands, kind_of, place_of, move_at, IsFirstStructureFault}
use Rattle.pair_structure.proofs.Rising.{IsRising-from_each}
use Rattle.pair_structure.proofs.StatesLeft.{left_from_reach, reach_from_left}

abbrev no_move : Move
no_move = record { from = 0; side = A; to = 0 }

-- a move that does not rise has one before it, and is not above it
pub falls_at : (moves : List Move) (n : ℕ) → (RisesAt moves n → ⊥) → (before : ℕ) × (before + 1 ≡ n) × (IsBefore (move_at moves before) (move_at moves n) → ⊥)
falls_at moves zero falls = absurd (falls (λ before is. absurd (omega (arith, is))))
falls_at moves (suc before) falls = (
  before,
  omega arith,
  λ is_before. falls (λ k is. let same : before ≡ k = omega (arith, is) in subst (λ k. IsBefore (move_at moves k) (move_at moves (suc before))) same is_before),
)

-- a state without a move is the first fault, where labels and moves are lawful and each lower state has one
pub first_no_move : (a b : RoleParts) (states : List (ℕ × ℕ)) (moves : List Move) (s : ℕ) → AreLabelled a b states → AreMoves a b states moves
    → s < length states → (IsLeft moves s → ⊥) → ((k : ℕ) → k < s → IsLeft moves k) → IsFirstStructureFault a b states moves (NoMove s)
first_no_move a b states moves s labelled lawful within none left = record { stands = (within, λ t reach. none (left_from_reach (record { states = states; moves = moves }) s t reach)); first = go }
  where
    go : (other : StructureFault) → Stands a b states moves other → ComesFirst 8 s (kind_of other) (place_of other)
    go Empty stands = grind (arith, labelled.some)
    go Start stands = absurd (stands labelled.starts)
    go (LocalRange k) stands = absurd (stands.1 (labelled.labels k stands.0))
    go (MoveRange k) stands = grind (arith, lawful.range k stands.0)
    go (NotAnArc k) stands = absurd (stands.1 (lawful.arcs k stands.0))
    go (OtherSideMoved k) stands = absurd (stands.1 (lawful.stays k stands.0))
    go (NotRising k) (lt, falls) = absurd (falls.2 (lawful.rising k lt falls.0 falls.1))
    go (NoMove k) stands =
        elim (cases_lt k s) [
          | inl earlier ↦ (let onward = reach_from_left (record { states = states; moves = moves }) k (left k earlier) in absurd (stands.1 onward.0 onward.1))
          | inr le ↦ inr (refl, le)
        ]
    go Memory stands = absurd stands

-- what is checked makes a structure
pub IsPairStructure_from_checks : (a b : RoleParts) (states : List (ℕ × ℕ)) (moves : List Move) → AreLabelled a b states → AreMoves a b states moves → ((s : ℕ) → s < length states → IsLeft moves s)
    → IsPairStructure a b states moves
IsPairStructure_from_checks a b states moves labelled lawful left = record {
  some = labelled.some;
  starts = labelled.starts;
  labels = λ k d lt. grind (arith, labelled.labels k lt, get_or_default states k d);
  lawful = λ k d lt. subst (IsLawfulMove a b states) (get_or_default moves k _ d lt) (record { from = (lawful.range k lt).0; to = (lawful.range k lt).1; arc = lawful.arcs k lt; stays = lawful.stays k lt });
  rising = IsRising-from_each moves lawful.rising;
  goes_on = record {
    leaves = λ side s t (k, lt, is). grind (arith, lawful.range k lt, get_or_default moves k);
    within = λ side s t (k, lt, is). grind (arith, lawful.range k lt, get_or_default moves k);
    onward = λ s lt. reach_from_left (record { states = states; moves = moves }) s (left s lt);
  };
}

-- no fault stands against a structure
pub none_against : (a b : RoleParts) (states : List (ℕ × ℕ)) (moves : List Move) → IsPairStructure a b states moves → (fault : StructureFault) → Stands a b states moves fault → ⊥
none_against a b states moves m Empty stands = omega (arith, stands, m.some)
none_against a b states moves m Start stands = stands m.starts
none_against a b states moves m (LocalRange s) stands = stands.1 (m.labels s (0, 0) stands.0)
none_against a b states moves m (MoveRange n) stands =
    let lawful = m.lawful n no_move stands.0 in elim stands.1 [ inl past ↦ omega (arith, past, lawful.from) | inr past ↦ omega (arith, past, lawful.to) ]
none_against a b states moves m (NotAnArc n) stands = stands.1 (m.lawful n no_move stands.0).arc
none_against a b states moves m (OtherSideMoved n) stands = stands.1 (m.lawful n no_move stands.0).stays
none_against a b states moves m (NotRising n) (lt, falls) =
    falls.2 (subst (λ n. IsBefore (move_at moves falls.0) (move_at moves n)) falls.1 (m.rising falls.0 no_move (omega (arith, falls.1))))
none_against a b states moves m (NoMove s) stands = let onward = m.goes_on.onward s stands.0 in stands.1 onward.0 onward.1
none_against a b states moves m Memory stands = stands
