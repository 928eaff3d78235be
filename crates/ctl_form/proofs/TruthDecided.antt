-- Truth of a formula is decided.
use Rattle.std.proofs.Common.{ℕ, ◌≡◌, ◌<◌, inl, inr, Bool, true, false, Option, Some, None, length, ap, slice_get}
use Rattle.std.proofs.Math.Decide.{ℕ_discrete}
use Rattle.pair_structure.specs.Structure.{Structure, HasMove, GoesOn}
use Rattle.pair_structure.specs.declared.side.Side.{Side}
use Rattle.pair_structure.specs.declared.side.Side.TheVariants.{A, B}
use Rattle.ctl_form.specs.Form.{Form, truth, falsity, at, neg, both, either, implies, next, always, sometime, until}
use Rattle.ctl_form.specs.Truth.{Holds, HasLocal, AfterOne, After, AlongPaths}
use Rattle.ctl_form.proofs.Decided.{Decided, decided_either, decided_both, decided_implies, decided_not, decided_iff, decided_each_next, decided_some_next}
use Rattle.ctl_form.proofs.Moves.{decided_has_move}
use Rattle.ctl_form.proofs.Rounds.{AreDecided, decided_in_rounds}
use Rattle.ctl_form.proofs.Along.{along_to, along_from}

decided_first : (o : Option (ℕ × ℕ)) (local : ℕ) → Decided ((other : ℕ) × (o ≡ Some (local, other)))
decided_first None local = inr (λ u. let e : None ≡ Some (local, u.0) = u.1 in cc)
decided_first (Some label) local = elim (ℕ_discrete label.0 local) [ yes e ↦ inl (label.1, ap (λ x. Some (x, label.1)) e) | no n ↦ inr (λ u. n (let e : Some label ≡ Some (local, u.0) = u.1 in part label (local, u.0) e)) ]
  where
    part : (x y : ℕ × ℕ) → ◌≡◌ {A = Option (ℕ × ℕ)} (Some x) (Some y) → x.0 ≡ y.0
    part x y e = cc

decided_second : (o : Option (ℕ × ℕ)) (local : ℕ) → Decided ((other : ℕ) × (o ≡ Some (other, local)))
decided_second None local = inr (λ u. let e : None ≡ Some (u.0, local) = u.1 in cc)
decided_second (Some label) local = elim (ℕ_discrete label.1 local) [ yes e ↦ inl (label.0, ap (λ x. Some (label.0, x)) e) | no n ↦ inr (λ u. n (let e : Some label ≡ Some (u.0, local) = u.1 in part label (u.0, local) e)) ]
  where
    part : (x y : ℕ × ℕ) → ◌≡◌ {A = Option (ℕ × ℕ)} (Some x) (Some y) → x.1 ≡ y.1
    part x y e = cc

pub decided_local : (m : Structure) (side : Side) (local s : ℕ) → Decided (HasLocal m side local s)
decided_local m A local s = decided_first (slice_get m.states s) local
decided_local m B local s = decided_second (slice_get m.states s) local

pub decided_after_one : (m : Structure) → GoesOn m → (all : Bool) (side : Side) (X : ℕ → Type 0) → ((t : ℕ) → t < length m.states → Decided (X t)) → (s : ℕ) → Decided (AfterOne m all side X s)
decided_after_one m on true side X x s = decided_each_next (length m.states) (HasMove m side s) X (on.within side s) (decided_has_move m side s) x
decided_after_one m on false side X x s = decided_some_next (length m.states) (HasMove m side s) X (on.within side s) (decided_has_move m side s) x

pub decided_next : (m : Structure) → GoesOn m → (all : Bool) (side : Option Side) (X : ℕ → Type 0) → ((t : ℕ) → t < length m.states → Decided (X t)) → (s : ℕ) → Decided (After m all side X s)
decided_next m on all (Some side) X x s = decided_after_one m on all side X x s
decided_next m on true None X x s = decided_both (decided_after_one m on true A X x s) (decided_after_one m on true B X x s)
decided_next m on false None X x s = decided_either (decided_after_one m on false A X x s) (decided_after_one m on false B X x s)

pub decided_along : (m : Structure) → GoesOn m → (all weak : Bool) (P Q : ℕ → Type 0) → AreDecided m P Q → (s : ℕ) → s < length m.states → Decided (AlongPaths m all weak P Q s)
decided_along m on all weak P Q d s lt = decided_iff (along_from m on all weak P Q s lt) (along_to m on all weak P Q d s lt) (decided_in_rounds m on all weak P Q d s lt)

pub decided_truth : (m : Structure) → GoesOn m → (f : Form) (s : ℕ) → s < length m.states → Decided (Holds m f s)
decided_truth m on truth s lt = inl tt
decided_truth m on falsity s lt = inr (λ u. u)
decided_truth m on (at side local) s lt = decided_local m side local s
decided_truth m on (neg f) s lt = decided_not (decided_truth m on f s lt)
decided_truth m on (both f g) s lt = decided_both (decided_truth m on f s lt) (decided_truth m on g s lt)
decided_truth m on (either f g) s lt = decided_either (decided_truth m on f s lt) (decided_truth m on g s lt)
decided_truth m on (implies f g) s lt = decided_implies (decided_truth m on f s lt) (decided_truth m on g s lt)
decided_truth m on (next all side f) s lt = decided_next m on all side (Holds m f) (decided_truth m on f) s
decided_truth m on (always all f) s lt = decided_along m on all true (Holds m f) (λ t. ⊥) (record { first = decided_truth m on f; second = λ t _. inr (λ u. u) }) s lt
decided_truth m on (sometime all f) s lt = decided_along m on all false (λ t. Unit {0}) (Holds m f) (record { first = λ t _. inl tt; second = decided_truth m on f }) s lt
decided_truth m on (until all weak f g) s lt = decided_along m on all weak (Holds m f) (Holds m g) (record { first = decided_truth m on f; second = decided_truth m on g }) s lt

-- so both parts of an until of formulas are decided
pub are_decided : (m : Structure) → GoesOn m → (f g : Form) → AreDecided m (Holds m f) (Holds m g)
are_decided m on f g = record { first = decided_truth m on f; second = decided_truth m on g }
