-- Moves of a structure that goes on: they are decided, they lead to states, and so is what holds after them.
use Rattle.std.proofs.Common.{ℕ, ◌≡◌, ◌<◌, inl, inr, length, Bool, true, false, ap, refl, slice_index_or}
use Rattle.std.proofs.Math.Decide.{ℕ_discrete}
use Rattle.pair_structure.specs.Structure.{Structure, HasMove, Reaches, GoesOn}
use Rattle.pair_structure.specs.declared.side.Side.{Side}
use Rattle.pair_structure.specs.declared.side.Side.TheVariants.{A, B}
use Rattle.pair_structure.specs.declared.side.Move.{Move}
use Rattle.ctl_form.specs.Rounds.{AfterMove}
use Rattle.ctl_form.proofs.Decided.{Decided, decided_of, decided_iff, decided_either, decided_both, decided_below, decided_some_next, decided_each_next}

decided_side : (x y : Side) → Decided (x ≡ y)
decided_side A A = inl refl
decided_side A B = inr (λ e. cc)
decided_side B A = inr (λ e. cc)
decided_side B B = inl refl

decided_move : (x y : Move) → Decided (x ≡ y)
decided_move x y = decided_iff join parts (decided_both (decided_of (ℕ_discrete x.from y.from)) (decided_both (decided_side x.side y.side) (decided_of (ℕ_discrete x.to y.to))))
  where
    join : ((x.from ≡ y.from) × ((x.side ≡ y.side) × (x.to ≡ y.to))) → x ≡ y
    join e = λ i. record { from = e.0 i; side = e.1.0 i; to = e.1.1 i }

    parts : x ≡ y → (x.from ≡ y.from) × ((x.side ≡ y.side) × (x.to ≡ y.to))
    parts e = (ap (λ (m : Move). m.from) e, (ap (λ (m : Move). m.side) e, ap (λ (m : Move). m.to) e))

pub decided_has_move : (m : Structure) (side : Side) (s t : ℕ) → Decided (HasMove m side s t)
decided_has_move m side s t = decided_below (λ k. slice_index_or m.moves k (record { from = s; side = side; to = t }) ≡ record { from = s; side = side; to = t }) (length m.moves) (λ k lt. decided_move _ _)

pub decided_reaches : (m : Structure) (s t : ℕ) → Decided (Reaches m s t)
decided_reaches m s t = decided_either (decided_has_move m A s t) (decided_has_move m B s t)

-- what a move reaches is a state
pub reaches_within : (m : Structure) → GoesOn m → (s t : ℕ) → Reaches m s t → t < length m.states
reaches_within m on s t step = elim step [ inl a ↦ on.within A s t a | inr b ↦ on.within B s t b ]

-- and so is what it leaves
pub reaches_from : (m : Structure) → GoesOn m → (s t : ℕ) → Reaches m s t → s < length m.states
reaches_from m on s t step = elim step [ inl a ↦ on.leaves A s t a | inr b ↦ on.leaves B s t b ]

pub decided_after : (m : Structure) → GoesOn m → (all : Bool) (X : ℕ → Type 0) → ((t : ℕ) → t < length m.states → Decided (X t)) → (s : ℕ) → Decided (AfterMove m all X s)
decided_after m on true X x s = decided_each_next (length m.states) (Reaches m s) X (reaches_within m on s) (decided_reaches m s) x
decided_after m on false X x s = decided_some_next (length m.states) (Reaches m s) X (reaches_within m on s) (decided_reaches m s) x

pub after_map : (m : Structure) (all : Bool) (X Y : ℕ → Type 0) (s : ℕ) → ((t : ℕ) → Reaches m s t → X t → Y t) → AfterMove m all X s → AfterMove m all Y s
after_map m true X Y s f h = λ t step. f t step (h t step)
after_map m false X Y s f h = (h.0, h.1, f h.0 h.1 h.2)
