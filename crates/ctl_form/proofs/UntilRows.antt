-- Rows of untils: a weak until as the negation of a strong one, and untils of facts that rows have.
use Rattle.std.proofs.Common.{ℕ, ◌≡◌, ◌<◌, ◌↔◌, inl, inr, Bool, true, false, not, Option, Some, None, List, length, ◌∙◌, arith}
use Rattle.pair_structure.specs.declared.side.Side.{Side}
use Rattle.pair_structure.specs.declared.side.Side.TheVariants.{A, B}
use Rattle.pair_structure.specs.Structure.{Structure, GoesOn}
use Rattle.ctl_form.specs.Row.{IsAt, IsRowOf}
use Rattle.ctl_form.specs.Truth.{After, AlongPaths}
use Rattle.ctl_form.proofs.Decided.{Decided, decided_iff}
use Rattle.ctl_form.proofs.Negation.{after_same}
use Rattle.ctl_form.proofs.Opposed.{AreOpposed, along_opposed, same_along}
use Rattle.ctl_form.proofs.Rows.{IsRowOf-map, decided_at}
use Rattle.ctl_form.proofs.SpreadSteps.{rows_decided}
use Rattle.ctl_form.proofs.TruthDecided.{decided_along}

-- a weak until holds where, over the other choice of paths, q does not fail until both fail
pub IsRowOf-weak : (m : Structure) → GoesOn m → (all : Bool) (p q not_p not_q neither fails row : List Bool) → length p ≡ length m.states → length q ≡ length m.states → IsRowOf (length p) (λ s. IsAt p s → ⊥) not_p → IsRowOf (length q) (λ s. IsAt q s → ⊥) not_q → IsRowOf (length not_p) (λ s. IsAt not_p s × IsAt not_q s) neither → IsRowOf (length m.states) (AlongPaths m (not all) false (IsAt not_q) (IsAt neither)) fails → IsRowOf (length fails) (λ s. IsAt fails s → ⊥) row → IsRowOf (length m.states) (AlongPaths m all true (IsAt p) (IsAt q)) row
IsRowOf-weak m on all p q not_p not_q neither fails row p_long q_long np nq both f h = record { long = h.long ∙ f.long; exact = at_each }
  where
    are_opposed : AreOpposed m (IsAt p) (IsAt q) (IsAt not_q) (IsAt neither)
    are_opposed = record { first = λ t lt. nq.exact t (omega (arith, lt, q_long)); second = second }
      where
        second : (t : ℕ) → t < length m.states → IsAt neither t ↔ ((IsAt p t → ⊥) × (IsAt q t → ⊥))
        second t lt = let pt = np.exact t (omega (arith, lt, p_long)) in let qt = nq.exact t (omega (arith, lt, q_long)) in let nt = both.exact t (omega (arith, lt, p_long, np.long)) in (λ y. (pt.0 (nt.0 y).0, qt.0 (nt.0 y).1), λ y. nt.1 (pt.1 y.0, qt.1 y.1))

    at_each : (s : ℕ) → s < length m.states → IsAt row s ↔ AlongPaths m all true (IsAt p) (IsAt q) s
    at_each s lt =
        let o = along_opposed m on all true (IsAt p) (IsAt q) (IsAt not_q) (IsAt neither) (rows_decided m p q) are_opposed s lt in
        let fs = f.exact s lt in
        let hs = h.exact s (omega (arith, lt, f.long)) in
        (λ y. elim (decided_along m on all true (IsAt p) (IsAt q) (rows_decided m p q) s lt) [ inl holds ↦ holds | inr none ↦ absurd (hs.0 y (fs.1 (o.1 none))) ], λ holds. hs.1 (λ x. o.0 (fs.0 x) holds))

-- facts that rows have are decided
rows_decide : (m : Structure) (P : ℕ → Type 0) (p : List Bool) → IsRowOf (length m.states) P p → (t : ℕ) → t < length m.states → Decided (P t)
rows_decide m P p h t lt = decided_iff (h.exact t lt).0 (h.exact t lt).1 (decided_at p t)

-- an until of rows is one of the facts that the rows have
pub IsRowOf-along : (m : Structure) → GoesOn m → (all weak : Bool) (P Q : ℕ → Type 0) (p q row : List Bool) → IsRowOf (length m.states) P p → IsRowOf (length m.states) Q q → IsRowOf (length m.states) (AlongPaths m all weak (IsAt p) (IsAt q)) row → IsRowOf (length m.states) (AlongPaths m all weak P Q) row
IsRowOf-along m on all weak P Q p q row hp hq h = IsRowOf-map (length m.states) (AlongPaths m all weak (IsAt p) (IsAt q)) (AlongPaths m all weak P Q) row (same_along m on all weak P Q (IsAt p) (IsAt q) (record { first = rows_decide m P p hp; second = rows_decide m Q q hq }) (record { first = hp.exact; second = hq.exact })) h

next_same : (m : Structure) → GoesOn m → (all : Bool) (side : Option Side) (P X : ℕ → Type 0) → ((t : ℕ) → t < length m.states → X t ↔ P t) → (s : ℕ) → After m all side X s ↔ After m all side P s
next_same m on all (Some side) P X e s = after_same m all side P X on e s
next_same m on true None P X e s = let a = after_same m true A P X on e s in let b = after_same m true B P X on e s in (λ h. (a.0 h.0, b.0 h.1), λ h. (a.1 h.0, b.1 h.1))
next_same m on false None P X e s = let a = after_same m false A P X on e s in let b = after_same m false B P X on e s in (λ h. elim h [ inl x ↦ inl (a.0 x) | inr y ↦ inr (b.0 y) ], λ h. elim h [ inl x ↦ inl (a.1 x) | inr y ↦ inr (b.1 y) ])

pub IsRowOf-next : (m : Structure) → GoesOn m → (all : Bool) (side : Option Side) (P : ℕ → Type 0) (p row : List Bool) → IsRowOf (length m.states) P p → IsRowOf (length m.states) (After m all side (IsAt p)) row → IsRowOf (length m.states) (After m all side P) row
IsRowOf-next m on all side P p row hp h = IsRowOf-map (length m.states) (After m all side (IsAt p)) (After m all side P) row (λ s _. next_same m on all side P (IsAt p) hp.exact s) h
