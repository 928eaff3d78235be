-- A move of a structure by its number: what it leads from and to, and what leads from one state to another.
use Rattle.std.proofs.Common.{ℕ, ◌≡◌, zero, suc, ◌<◌, ◌≤◌, ◌+◌, inl, inr, length, arith, add-one, ap, subst, ◌∙◌}
use Rattle.std.proofs.Math.Decide.{dec_le}
use Rattle.std.proofs.lemmas.List.{get_or_default}
use Rattle.pair_structure.specs.declared.side.Side.{Side}
use Rattle.pair_structure.specs.declared.side.Side.TheVariants.{A, B}
use Rattle.pair_structure.specs.declared.side.Move.{Move}
use Rattle.pair_structure.specs.Structure.{Structure, HasMove, Reaches, IsBefore, IsRising}
use Rattle.pair_structure.specs.StructureFault.{move_at}
use Rattle.ctl_form.specs.inside.Spread.{AreInOrder}

-- what `move_at` gives past the last move
abbrev no_move : Move
no_move = record { from = 0; side = A; to = 0 }

-- each move stands in the structure
pub has_move_at : (m : Structure) (j : ℕ) → j < length m.moves → HasMove m (move_at m.moves j).side (move_at m.moves j).from (move_at m.moves j).to
has_move_at m j lt = (j, lt, get_or_default m.moves j (move_at m.moves j) no_move lt)

pub reaches_by : (m : Structure) (j : ℕ) → j < length m.moves → Reaches m (move_at m.moves j).from (move_at m.moves j).to
reaches_by m j lt = by_side (move_at m.moves j).side (has_move_at m j lt)
  where
    by_side : (side : Side) → HasMove m side (move_at m.moves j).from (move_at m.moves j).to → Reaches m (move_at m.moves j).from (move_at m.moves j).to
    by_side A h = inl h
    by_side B h = inr h

-- a move that stands in the structure has a number
pub move_of_side : (m : Structure) (side : Side) (s t : ℕ) → HasMove m side s t → (j : ℕ) × (j < length m.moves) × (move_at m.moves j ≡ record { from = s; side = side; to = t })
move_of_side m side s t h = (h.0, h.1, get_or_default m.moves h.0 no_move (record { from = s; side = side; to = t }) h.1 ∙ h.2)

pub move_of : (m : Structure) (s t : ℕ) → Reaches m s t → (j : ℕ) × (j < length m.moves) × ((move_at m.moves j).from ≡ s) × ((move_at m.moves j).to ≡ t)
move_of m s t step = elim step [ inl a ↦ of_side A a | inr b ↦ of_side B b ]
  where
    of_side : (side : Side) → HasMove m side s t → (j : ℕ) × (j < length m.moves) × ((move_at m.moves j).from ≡ s) × ((move_at m.moves j).to ≡ t)
    of_side side h = let u = move_of_side m side s t h in (u.0, u.1, ap (λ (x : Move). x.from) u.2, ap (λ (x : Move). x.to) u.2)

-- rising moves are in the order of the states that they leave
pub in_order : (m : Structure) → IsRising m.moves → AreInOrder m.moves
in_order m rising j zero le lt = let e : zero ≡ j = omega (arith, le) in subst (λ i. (move_at m.moves i).from ≤ (move_at m.moves zero).from) e (omega arith)
in_order m rising j (suc k) le lt = elim (dec_le j k) [
  | yes l ↦ (let here = in_order m rising j k l (omega (arith, lt)) in let next : (move_at m.moves k).from ≤ (move_at m.moves (suc k)).from = rw (← add-one) (below (move_at m.moves k) (move_at m.moves (k + 1)) (rising k no_move (omega (arith, lt)))) in omega (arith, here, next))
  | no g ↦ (let e : suc k ≡ j = omega (arith, le, g) in subst (λ i. (move_at m.moves i).from ≤ (move_at m.moves (suc k)).from) e (omega arith))
]
  where
    below : (x y : Move) → IsBefore x y → x.from ≤ y.from
    below x y (inl l) = omega (arith, l)
    below x y (inr e) = omega (arith, e.0)
