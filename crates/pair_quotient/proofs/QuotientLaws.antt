-- What follows for a structure that is the quotient of another.
use Rattle.std.proofs.Common.{ℕ, ◌≡◌, ◌↔◌, ◌<◌, Bool, true, List, length, slice_index, refl, sym, ◌∙◌, subst, ap, Some, slice_get}
use Rattle.std.proofs.lemmas.Option.{slice_get-get_or}
use Rattle.pair_structure.specs.declared.side.Side.{Side}
use Rattle.pair_structure.specs.Structure.{Structure, HasMove, GoesOn, label_at}
use Rattle.ctl_form.specs.Form.{Form}
use Rattle.ctl_form.specs.Truth.{Holds}
use Rattle.pair_quotient.specs.Bisimulation.{IsBisimulation, Told}
use Rattle.pair_quotient.specs.Quotient.{IsQuotient, IsShrunk}
use Rattle.ctl_form.proofs.BoundedMorphism.{IsBoundedMorphism, morphism_keeps_truth}
use Rattle.pair_quotient.proofs.StateTests.{below_and, AreBelow, below_and-true, true-below_and}

-- a state and its class
pub record IsIn (m : Structure) (classes : List ℕ) (s c : ℕ) : Type 0 where
  pub state : s < length m.states
  pub class : slice_index classes s ≡ c

-- a state and its class are related by a bisimulation
IsBisimulation-quotient : (m q : Structure) (classes : List ℕ) → GoesOn m → IsQuotient m classes q → IsBisimulation m q (IsIn m classes)
IsBisimulation-quotient m q classes on is = record { labels = labels; forth = forth; back = back }
  where
    labels : (s c : ℕ) → IsIn m classes s c → slice_get m.states s ≡ slice_get q.states c
    labels s c r =
        let lc : c < length q.states = subst (λ x. x < length q.states) r.class (is.within s r.state) in
        let e : label_at m.states s ≡ label_at q.states c = sym (is.labels s r.state) ∙ ap (λ x. label_at q.states x) r.class in
        slice_get-get_or m.states s (0, 0) r.state ∙ ap (λ (l : ℕ × ℕ). Some l) e ∙ sym (slice_get-get_or q.states c (0, 0) lc)

    forth : (side : Side) (s c s' : ℕ) → IsIn m classes s c → HasMove m side s s' → (c' : ℕ) × HasMove q side c c' × IsIn m classes s' c'
    forth side s c s' r step = (slice_index classes s', (is.moves side c (slice_index classes s')).1 (s, s', step, r.class, refl), record { state = on.within side s s' step; class = refl })

    back : (side : Side) (s c c' : ℕ) → IsIn m classes s c → HasMove q side c c' → (s' : ℕ) × HasMove m side s s' × IsIn m classes s' c'
    back side s c c' r step =
        let u = (is.moves side c c').0 step in
        let alike = (is.same u.0 s (on.leaves side u.0 u.1 u.2) r.state).0 (u.3 ∙ sym r.class) in
        let v = alike.1.forth side u.0 s u.1 alike.2 u.2 in
        let e = (is.same u.1 v.0 (on.within side u.0 u.1 u.2) (on.within side s v.0 v.1)).1 (alike.0, alike.1, v.2) in
        (v.0, v.1, record { state = on.within side s v.0 v.1; class = sym e ∙ u.4 })

-- a state goes to its class by a bounded morphism
morphism_to_classes : (m q : Structure) (classes : List ℕ) → GoesOn m → IsQuotient m classes q → IsBoundedMorphism m q (λ s. s < length m.states) (λ s. slice_index classes s)
morphism_to_classes m q classes on is =
    let both = IsBisimulation-quotient m q classes on is in
    let at : (s : ℕ) → s < length m.states → IsIn m classes s (slice_index classes s) = λ s lt. record { state = lt; class = refl } in
    record {
      closed = λ side s t lt step. on.within side s t step;
      label = λ s lt. sym (both.labels s (slice_index classes s) (at s lt));
      forth = λ side s t lt step. (is.moves side (slice_index classes s) (slice_index classes t)).1 (s, t, step, refl, refl);
      back = λ side s u lt step. let v = both.back side s (slice_index classes s) u (at s lt) step in (v.0, v.1, v.2.class);
    }

-- the same formulas hold at a state and at its class
pub quotient_agrees : (m q : Structure) (classes : List ℕ) → GoesOn m → IsQuotient m classes q → (s : ℕ) → s < length m.states → (f : Form) → Holds m f s ↔ Holds q f (slice_index classes s)
quotient_agrees m q classes on is s lt f = morphism_keeps_truth m q (λ t. t < length m.states) (λ t. slice_index classes t) (morphism_to_classes m q classes on is) f s lt

-- a test of classes, asked of their members
abbrev of_classes : List ℕ → (ℕ → ℕ → Bool) → ℕ → ℕ → Bool
of_classes classes test s t = test (slice_index classes s) (slice_index classes t)

-- a bisimulation of classes is one of their members
IsBisimulation-members : (m q : Structure) (classes : List ℕ) → GoesOn m → IsQuotient m classes q → (test : ℕ → ℕ → Bool) → IsBisimulation q q (Told test) → IsBisimulation m m (Told (below_and (length m.states) (of_classes classes test)))
IsBisimulation-members m q classes on is test b = record { labels = labels; forth = forth; back = back }
  where
    open_up : (s t : ℕ) → Told (below_and (length m.states) (of_classes classes test)) s t → AreBelow (length m.states) (of_classes classes test) s t
    open_up s t r = below_and-true (length m.states) (of_classes classes test) s t r

    labels : (s t : ℕ) → Told (below_and (length m.states) (of_classes classes test)) s t → slice_get m.states s ≡ slice_get m.states t
    labels s t r =
        let h = open_up s t r in
        let both = IsBisimulation-quotient m q classes on is in
        both.labels s (slice_index classes s) (record { state = h.first; class = refl }) ∙ b.labels (slice_index classes s) (slice_index classes t) h.holds ∙ sym (both.labels t (slice_index classes t) (record { state = h.second; class = refl }))

    forth : (side : Side) (s t s' : ℕ) → Told (below_and (length m.states) (of_classes classes test)) s t → HasMove m side s s' → (t' : ℕ) × HasMove m side t t' × Told (below_and (length m.states) (of_classes classes test)) s' t'
    forth side s t s' r step =
        let h = open_up s t r in
        let both = IsBisimulation-quotient m q classes on is in
        let u = both.forth side s (slice_index classes s) s' (record { state = h.first; class = refl }) step in
        let v = b.forth side (slice_index classes s) (slice_index classes t) u.0 h.holds u.1 in
        let w = both.back side t (slice_index classes t) v.0 (record { state = h.second; class = refl }) v.1 in
        let told : test (slice_index classes s') (slice_index classes w.0) ≡ true = ap (λ x. test x (slice_index classes w.0)) u.2.class ∙ ap (λ x. test u.0 x) w.2.class ∙ v.2 in
        (w.0, w.1, true-below_and (length m.states) (of_classes classes test) s' w.0 u.2.state w.2.state told)

    back : (side : Side) (s t t' : ℕ) → Told (below_and (length m.states) (of_classes classes test)) s t → HasMove m side t t' → (s' : ℕ) × HasMove m side s s' × Told (below_and (length m.states) (of_classes classes test)) s' t'
    back side s t t' r step =
        let h = open_up s t r in
        let both = IsBisimulation-quotient m q classes on is in
        let u = both.forth side t (slice_index classes t) t' (record { state = h.second; class = refl }) step in
        let v = b.back side (slice_index classes s) (slice_index classes t) u.0 h.holds u.1 in
        let w = both.back side s (slice_index classes s) v.0 (record { state = h.first; class = refl }) v.1 in
        let told : test (slice_index classes w.0) (slice_index classes t') ≡ true = ap (λ x. test (slice_index classes w.0) x) u.2.class ∙ ap (λ x. test x u.0) w.2.class ∙ v.2 in
        (w.0, w.1, true-below_and (length m.states) (of_classes classes test) w.0 t' w.2.state u.2.state told)

-- no two classes are bisimilar
pub quotient_shrunk : (m q : Structure) (classes : List ℕ) → GoesOn m → IsQuotient m classes q → IsShrunk q
quotient_shrunk m q classes on is c d lc ld alike =
    let u = is.lowest c lc in
    let v = is.lowest d ld in
    let told : alike.0 (slice_index classes u.0) (slice_index classes v.0) ≡ true = ap (λ x. alike.0 x (slice_index classes v.0)) u.1.member ∙ ap (λ x. alike.0 c x) v.1.member ∙ alike.2 in
    let e = (is.same u.0 v.0 u.1.state v.1.state).1 (below_and (length m.states) (of_classes classes alike.0), IsBisimulation-members m q classes on is alike.0 alike.1, true-below_and (length m.states) (of_classes classes alike.0) u.0 v.0 u.1.state v.1.state told) in
    sym u.1.member ∙ e ∙ v.1.member
