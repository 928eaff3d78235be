-- Rows of next-times: the moves that were passed, and each move as the negation of some move.
use Rattle.std.proofs.Common.{ℕ, ◌≡◌, ◌⊎◌, ◌<◌, ◌+◌, ◌↔◌, inl, inr, Bool, true, false, Option, Some, None, List, length, refl, ap, subst, sym, ◌∙◌, arith, slice_set, length-set, ◌≢◌}
use Rattle.std.proofs.Math.Decide.{ℕ_discrete, dec_lt}
use Rattle.pair_structure.specs.declared.side.Side.{Side}
use Rattle.pair_structure.specs.declared.side.Side.TheVariants.{A, B}
use Rattle.pair_structure.specs.declared.side.Move.{Move}
use Rattle.pair_structure.specs.Structure.{Structure, HasMove, GoesOn}
use Rattle.pair_structure.specs.StructureFault.{move_at}
use Rattle.ctl_form.specs.inside.Next.{IsOf, SomeLeads}
use Rattle.ctl_form.specs.Row.{IsAt, IsRowOf}
use Rattle.ctl_form.specs.Truth.{AfterOne, After}
use Rattle.ctl_form.proofs.MovePlaces.{has_move_at, move_of_side}
use Rattle.ctl_form.proofs.Rows.{decided_at, IsAt-set_same, IsAt-set_keeps, IsAt-set_back, IsRowOf-map}

some_more : (moves : List Move) (side : Option Side) (p : List Bool) (n s : ℕ) → SomeLeads moves side p n s → SomeLeads moves side p (n + 1) s
some_more moves side p n s h = (h.0, omega (arith, h.1), h.2, h.3, h.4)

-- a move that is spoken of and leads to where p is true
pub IsRowOf-lead : (states : ℕ) (moves : List Move) (side : Option Side) (p : List Bool) (n : ℕ) (row : List Bool) → (move_at moves n).from < states → IsOf side (move_at moves n).side → IsAt p (move_at moves n).to → IsRowOf states (SomeLeads moves side p n) row → IsRowOf states (SomeLeads moves side p (n + 1)) (slice_set row (move_at moves n).from true)
IsRowOf-lead states moves side p n row leaves of leads h = record { long = length-set row (move_at moves n).from true ∙ h.long; exact = λ s lt. (to s lt, from s lt) }
  where
    within : (move_at moves n).from < length row
    within = omega (arith, leaves, h.long)

    to : (s : ℕ) → s < states → IsAt (slice_set row (move_at moves n).from true) s → SomeLeads moves side p (n + 1) s
    to s lt y = elim (ℕ_discrete s (move_at moves n).from) [ yes e ↦ (n, omega arith, sym e, of, leads) | no apart ↦ (let differ : s ≢ (move_at moves n).from = apart in some_more moves side p n s ((h.exact s lt).0 (IsAt-set_back row (move_at moves n).from s differ y))) ]

    from : (s : ℕ) → s < states → SomeLeads moves side p (n + 1) s → IsAt (slice_set row (move_at moves n).from true) s
    from s lt u = elim (dec_lt u.0 n) [ yes l ↦ IsAt-set_keeps row (move_at moves n).from s within ((h.exact s lt).1 (u.0, l, u.2, u.3, u.4)) | no g ↦ (let e : u.0 ≡ n = omega (arith, g, u.1) in subst (λ i. IsAt (slice_set row (move_at moves n).from true) i) (subst (λ j. (move_at moves j).from ≡ s) e u.2) (IsAt-set_same row (move_at moves n).from within)) ]

-- a move that is not
pub IsRowOf-pass : (states : ℕ) (moves : List Move) (side : Option Side) (p : List Bool) (n : ℕ) (row : List Bool) → ((IsOf side (move_at moves n).side × IsAt p (move_at moves n).to) → ⊥) → IsRowOf states (SomeLeads moves side p n) row → IsRowOf states (SomeLeads moves side p (n + 1)) row
IsRowOf-pass states moves side p n row none h = record { long = h.long; exact = λ s lt. (λ y. some_more moves side p n s ((h.exact s lt).0 y), λ u. elim (dec_lt u.0 n) [ yes l ↦ (h.exact s lt).1 (u.0, l, u.2, u.3, u.4) | no g ↦ (let e : u.0 ≡ n = omega (arith, g, u.1) in absurd (none (subst (λ j. IsOf side (move_at moves j).side) e u.3, subst (λ j. IsAt p (move_at moves j).to) e u.4))) ]) }

-- some move of this side, by its number
lead_of : (m : Structure) (side : Side) (p : List Bool) (s : ℕ) → AfterOne m false side (IsAt p) s → (j : ℕ) × (j < length m.moves) × ((move_at m.moves j).from ≡ s) × ((move_at m.moves j).side ≡ side) × IsAt p (move_at m.moves j).to
lead_of m side p s h = let u = move_of_side m side s h.0 h.1 in (u.0, u.1, ap (λ (x : Move). x.from) u.2, ap (λ (x : Move). x.side) u.2, subst (λ t. IsAt p t) (sym (ap (λ (x : Move). x.to) u.2)) h.2)

after_lead : (m : Structure) (side : Side) (p : List Bool) (s j : ℕ) → j < length m.moves → (move_at m.moves j).from ≡ s → (move_at m.moves j).side ≡ side → IsAt p (move_at m.moves j).to → AfterOne m false side (IsAt p) s
after_lead m side p s j lt leaves by leads = ((move_at m.moves j).to, subst (λ x. HasMove m x s (move_at m.moves j).to) by (subst (λ i. HasMove m (move_at m.moves j).side i (move_at m.moves j).to) leaves (has_move_at m j lt)), leads)

some_lead : (m : Structure) (side : Option Side) (p : List Bool) (s : ℕ) → After m false side (IsAt p) s → SomeLeads m.moves side p (length m.moves) s
some_lead m (Some side) p s h = lead_of m side p s h
some_lead m None p s (inl h) = let u = lead_of m A p s h in (u.0, u.1, u.2, tt, u.4)
some_lead m None p s (inr h) = let u = lead_of m B p s h in (u.0, u.1, u.2, tt, u.4)

some_after : (m : Structure) (side : Option Side) (p : List Bool) (s : ℕ) → SomeLeads m.moves side p (length m.moves) s → After m false side (IsAt p) s
some_after m (Some side) p s u = after_lead m side p s u.0 u.1 u.2 u.3 u.4
some_after m None p s u = by_side (move_at m.moves u.0).side refl
  where
    by_side : (side : Side) → (move_at m.moves u.0).side ≡ side → AfterOne m false A (IsAt p) s ⊎ AfterOne m false B (IsAt p) s
    by_side A e = inl (after_lead m A p s u.0 u.1 u.2 e u.4)
    by_side B e = inr (after_lead m B p s u.0 u.1 u.2 e u.4)

pub IsRowOf-some : (m : Structure) (side : Option Side) (p row : List Bool) → IsRowOf (length m.states) (SomeLeads m.moves side p (length m.moves)) row → IsRowOf (length m.states) (After m false side (IsAt p)) row
IsRowOf-some m side p row h = IsRowOf-map (length m.states) (SomeLeads m.moves side p (length m.moves)) (After m false side (IsAt p)) row (λ s lt. (some_after m side p s, some_lead m side p s)) h

-- p after each move: no move leads to where p fails
pub IsRowOf-each : (m : Structure) → GoesOn m → (side : Option Side) (p fails_p some row : List Bool) → length p ≡ length m.states → IsRowOf (length p) (λ s. IsAt p s → ⊥) fails_p → IsRowOf (length m.states) (After m false side (IsAt fails_p)) some → IsRowOf (length some) (λ s. IsAt some s → ⊥) row → IsRowOf (length m.states) (After m true side (IsAt p)) row
IsRowOf-each m on side p fails_p some row long fails s_row h = record { long = h.long ∙ s_row.long; exact = λ s lt. (λ y. each_one side s (λ u. (let l : s < length some = omega (arith, lt, s_row.long) in (h.exact s l).0 y ((s_row.exact s lt).1 u))), λ each. (let l : s < length some = omega (arith, lt, s_row.long) in (h.exact s l).1 (λ x. not_some side s each ((s_row.exact s lt).0 x)))) }
  where
    fails_at : (side : Side) (s t : ℕ) → HasMove m side s t → IsAt fails_p t ↔ (IsAt p t → ⊥)
    fails_at side s t step = let l = on.within side s t step in fails.exact t (omega (arith, l, long))

    each_by : (side : Side) (s : ℕ) → (AfterOne m false side (IsAt fails_p) s → ⊥) → AfterOne m true side (IsAt p) s
    each_by side s none t step = elim (decided_at p t) [ inl y ↦ y | inr n ↦ absurd (none (t, step, (fails_at side s t step).1 n)) ]

    not_by : (side : Side) (s : ℕ) → AfterOne m true side (IsAt p) s → AfterOne m false side (IsAt fails_p) s → ⊥
    not_by side s each some = (fails_at side s some.0 some.1).0 some.2 (each some.0 some.1)

    each_one : (side : Option Side) (s : ℕ) → (After m false side (IsAt fails_p) s → ⊥) → After m true side (IsAt p) s
    each_one (Some side) s none = each_by side s none
    each_one None s none = (each_by A s (λ u. none (inl u)), each_by B s (λ u. none (inr u)))

    not_some : (side : Option Side) (s : ℕ) → After m true side (IsAt p) s → After m false side (IsAt fails_p) s → ⊥
    not_some (Some side) s each some = not_by side s each some
    not_some None s each (inl some) = not_by A s each.0 some
    not_some None s each (inr some) = not_by B s each.1 some
