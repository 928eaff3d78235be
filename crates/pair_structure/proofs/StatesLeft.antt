-- Which states the moves leave: as rising moves are read one after another, and against the moves of a structure.
use Rattle.std.proofs.Common.{ℕ, ◌≡◌, ◌<◌, ◌+◌, List, length, arith, below_more, inl, inr, subst, refl}
use Rattle.std.proofs.lemmas.Bool.{cases_lt}
use Rattle.std.proofs.lemmas.List.{get_or_default}
use Rattle.pair_structure.specs.declared.side.Move.{Move}
use Rattle.pair_structure.specs.declared.side.Side.{Side}
use Rattle.pair_structure.specs.declared.side.Side.TheVariants.{A, B}
use Rattle.pair_structure.specs.Structure.{Structure, HasMove, Reaches, IsRising}
use Rattle.pair_structure.specs.inside.StructureCheck.{IsLeft}
use Rattle.pair_structure.specs.StructureFault.{move_at}
use Rattle.pair_structure.proofs.Rising.{from_rises}

-- each state below next is left, and the first n moves leave no other
pub record HaveLeft (moves : List Move) (n next : ℕ) : Type 0 where
  pub left : (s : ℕ) → s < next → IsLeft moves s
  pub passed : (k : ℕ) → k < n → (move_at moves k).from < next

-- one more move, from the next state
pub HaveLeft-next : (moves : List Move) (n next : ℕ) → HaveLeft moves n next → n < length moves → (move_at moves n).from ≡ next → HaveLeft moves (n + 1) (next + 1)
HaveLeft-next moves n next have lt is = record {
  left = below_more _ next have.left (n, move_at moves n, lt, get_or_default moves n (move_at moves n) _ lt, is);
  passed = below_more _ n (λ k before. omega (arith, have.passed k before)) (omega arith);
}

-- one more move, from a state that was left
pub HaveLeft-again : (moves : List Move) (n next : ℕ) → HaveLeft moves n next → (move_at moves n).from < next → HaveLeft moves (n + 1) next
HaveLeft-again moves n next have lt = record { left = have.left; passed = below_more _ n have.passed lt }

-- the next move leaves a higher state, so that no move leaves this one
pub passed_over : (moves : List Move) (n next : ℕ) → IsRising moves → HaveLeft moves n next → n < length moves → next < (move_at moves n).from → IsLeft moves next → ⊥
passed_over moves n next rising have lt above (k, move, within, is, from) =
    elim (cases_lt k n) [
      | inl before ↦ grind (arith, have.passed k before, get_or_default moves k)
      | inr after ↦ grind (arith, from_rises moves rising n k move after within, get_or_default moves n)
    ]

reach : (m : Structure) (side : Side) (s t : ℕ) → HasMove m side s t → Reaches m s t
reach m A s t has = inl has
reach m B s t has = inr has

-- a move that leaves a state leads on from it
pub reach_from_left : (m : Structure) (s : ℕ) → IsLeft m.moves s → (t : ℕ) × Reaches m s t
reach_from_left m s (k, move, within, is, from) = (move.to, subst (λ s. Reaches m s move.to) from (reach m move.side move.from move.to (k, within, is)))

-- a state that is led on from is left
pub left_from_reach : (m : Structure) (s t : ℕ) → Reaches m s t → IsLeft m.moves s
left_from_reach m s t reaches = elim reaches [
  | inl (k, within, is) ↦ (k, record { from = s; side = A; to = t }, within, is, refl)
  | inr (k, within, is) ↦ (k, record { from = s; side = B; to = t }, within, is, refl)
]
