-- What a walk adds to a list of formulas: the walked formula and what it brings, and nothing that is not in each closed list.
use Rattle.std.proofs.Common.{ℕ, ◌≡◌, ◌⊎◌, ◌<◌, ◌≤◌, inl, inr, Bool, true, false, cond, Some, List, [], ◌∷◌, ◌++◌, arith, refl, sym, ◌∙◌, ap, subst, length, length-append}
use Rattle.std.specs.Bool.{Decides}
use Rattle.std.specs.Cmp.{IsEquivalence}
use Rattle.std.specs.List.{Contains, IsDistinct}
use Rattle.std.proofs.lemmas.Bool.Decides.{Decides-eqb}
use Rattle.std.proofs.lemmas.Cmp.{nat_list_eq_equiv}
use Rattle.std.proofs.lemmas.List.{get_or_append_left}
use Rattle.std.proofs.lemmas.List.Elements.{Contains-append_left, Contains-append_cases, Contains-push, Contains-push_cases}
use Rattle.std.proofs.lemmas.Map.Keys.{IsDistinct-push}
use Rattle.std.proofs.lemmas.Map.Made.{is_member-Decides}
use Rattle.std.proofs.lemmas.Slice.Eq.{slice_eq-Decides}
use Rattle.pair_structure.specs.declared.side.Side.TheVariants.{A, B}
use Rattle.ctl_form.specs.Closure.{brings, AreWithin, IsGrown}
use Rattle.ctl_form.specs.Code.{numbers}
use Rattle.ctl_form.specs.inside.CodeBack.{numbers_same}
use Rattle.ctl_form.specs.Form.{Form, truth, falsity, at, neg, both, either, implies, next, always, sometime, until}
use Rattle.ctl_form.specs.Members.{form_at}
use Rattle.ctl_form.specs.Walk.{same_form, has_form, noted, noted_until, walk}

-- `same_form` tells whether two trees are equal
pub same_form_decides : (f g : Form) → Decides (same_form f g) (f ≡ g)
same_form_decides f g = let d = slice_eq-Decides Decides-eqb (numbers f) (numbers g) (same_form f g) refl in (λ e. numbers_same f g (d.0 e), λ e. d.1 (ap numbers e))

-- `same_form` is an equivalence
pub same_form_equivalence : IsEquivalence same_form
same_form_equivalence = record {
  refl = λ f. nat_list_eq_equiv.refl (numbers f);
  symm = λ f g. nat_list_eq_equiv.symm (numbers f) (numbers g);
  congr = λ f g h. nat_list_eq_equiv.congr (numbers f) (numbers g) (numbers h);
}

by_test : (b : Bool) (X : Type 0) (forms more : List Form) → Decides b X → (X × (cond b forms more ≡ forms)) ⊎ ((X → ⊥) × (b ≡ false) × (cond b forms more ≡ more))
by_test true X forms more d = inl (d.0 refl, refl)
by_test false X forms more d = inr (λ x. let e : false ≡ true = d.1 x in cc, refl, refl)

-- a formula that stands in the list changes nothing, and another comes last
pub known_or_new : (f : Form) (forms : List Form) → (Contains forms f × (noted f forms ≡ forms)) ⊎ ((Contains forms f → ⊥) × (has_form forms f ≡ false) × (noted f forms ≡ forms ++ f ∷ []))
unfolding noted
known_or_new f forms = by_test (has_form forms f) (Contains forms f) forms (forms ++ f ∷ []) (is_member-Decides same_form_decides forms f)

contains_as : (l m : List Form) (x : Form) → l ≡ m → Contains m x → Contains l x
contains_as l m x e h = subst (λ k. Contains k x) (sym e) h

pub noted_known : (f : Form) (forms : List Form) → Contains forms f → noted f forms ≡ forms
noted_known f forms h = elim (known_or_new f forms) [ inl k ↦ k.1 | inr k ↦ absurd (k.0 h) ]

pub noted_new : (f : Form) (forms : List Form) → (Contains forms f → ⊥) → noted f forms ≡ forms ++ f ∷ []
noted_new f forms none = elim (known_or_new f forms) [ inl k ↦ absurd (none k.0) | inr k ↦ k.2 ]

pub within_noted : (f : Form) (forms : List Form) → AreWithin forms (noted f forms)
within_noted f forms x h = elim (known_or_new f forms) [ inl k ↦ contains_as (noted f forms) forms x k.1 h | inr k ↦ contains_as (noted f forms) (forms ++ f ∷ []) x k.2 (Contains-append_left forms (f ∷ []) x h) ]

pub has_noted : (f : Form) (forms : List Form) → Contains (noted f forms) f
has_noted f forms = elim (known_or_new f forms) [ inl k ↦ contains_as (noted f forms) forms f k.1 k.0 | inr k ↦ contains_as (noted f forms) (forms ++ f ∷ []) f k.2 (Contains-push forms f) ]

pub noted_cases : (f : Form) (forms : List Form) (x : Form) → Contains (noted f forms) x → Contains forms x ⊎ (f ≡ x)
noted_cases f forms x h = elim (known_or_new f forms) [ inl k ↦ inl (subst (λ l. Contains l x) k.1 h) | inr k ↦ Contains-push_cases forms f x (subst (λ l. Contains l x) k.2 h) ]

pub within_nil : (forms : List Form) → AreWithin [] forms
within_nil forms x h = absurd (omega (arith, h.1))

pub within_cons : (f : Form) (fs forms : List Form) → Contains forms f → AreWithin fs forms → AreWithin (f ∷ fs) forms
within_cons f fs forms c w x h = elim (Contains-append_cases (f ∷ []) fs x h) [ inl k ↦ elim (Contains-push_cases [] f x k) [ inl none ↦ within_nil forms x none | inr e ↦ subst (λ y. Contains forms y) e c ] | inr k ↦ w x k ]

-- what holds of a list, and is kept where a formula is noted, is kept by a walk
pub walk_keeps : (P : List Form → Type 0) → ((f : Form) (forms : List Form) → P forms → P (noted f forms)) → (f : Form) (forms : List Form) → P forms → P (walk f forms)
walk_keeps P step truth forms h = step truth forms h
walk_keeps P step falsity forms h = step falsity forms h
walk_keeps P step (at side local) forms h = step (at side local) forms h
walk_keeps P step (neg f) forms h = step (neg f) forms h
walk_keeps P step (both f g) forms h = step (both f g) (walk g (walk f forms)) (walk_keeps P step g (walk f forms) (walk_keeps P step f forms h))
walk_keeps P step (either f g) forms h = step (either f g) (walk g (walk f forms)) (walk_keeps P step g (walk f forms) (walk_keeps P step f forms h))
walk_keeps P step (implies f g) forms h = step (implies f g) forms h
walk_keeps P step (next all side f) forms h = step (next all side f) (walk f forms) (walk_keeps P step f forms h)
walk_keeps P step (always all f) forms h = step (always all f) forms h
walk_keeps P step (sometime all f) forms h = step (sometime all f) forms h
walk_keeps P step (until all weak f g) forms h =
    let u : Form = until all weak f g in
    let before : List Form = walk g (walk f forms) in
    step (next all (Some B) u) (noted (next all (Some A) u) (noted u before)) (step (next all (Some A) u) (noted u before) (step u before (walk_keeps P step g (walk f forms) (walk_keeps P step f forms h))))

pub within_walk : (f : Form) (forms : List Form) → AreWithin forms (walk f forms)
within_walk f forms = walk_keeps (λ l. AreWithin forms l) (λ g l w x h. within_noted g l x (w x h)) f forms (λ x h. h)

pub has_walk : (f : Form) (forms : List Form) → Contains (walk f forms) f
has_walk truth forms = has_noted truth forms
has_walk falsity forms = has_noted falsity forms
has_walk (at side local) forms = has_noted (at side local) forms
has_walk (neg f) forms = has_noted (neg f) forms
has_walk (both f g) forms = has_noted (both f g) (walk g (walk f forms))
has_walk (either f g) forms = has_noted (either f g) (walk g (walk f forms))
has_walk (implies f g) forms = has_noted (implies f g) forms
has_walk (next all side f) forms = has_noted (next all side f) (walk f forms)
has_walk (always all f) forms = has_noted (always all f) forms
has_walk (sometime all f) forms = has_noted (sometime all f) forms
has_walk (until all weak f g) forms =
    let u : Form = until all weak f g in
    let before : List Form = walk g (walk f forms) in
    within_noted (next all (Some B) u) (noted (next all (Some A) u) (noted u before)) u (within_noted (next all (Some A) u) (noted u before) u (has_noted u before))

-- a list stays grown where a formula is noted whose parts it has
pub grown_noted : (f : Form) (forms : List Form) → AreWithin (brings f) (noted f forms) → IsGrown forms → IsGrown (noted f forms)
grown_noted f forms parts grown x h p q = elim (noted_cases f forms x h) [ inl k ↦ within_noted f forms p (grown x k p q) | inr e ↦ parts p (subst (λ y. Contains (brings y) p) (sym e) q) ]

-- the same of an until with its next-times
grown_until : (all weak : Bool) (f g : Form) (forms : List Form) → Contains forms f → Contains forms g → IsGrown forms → IsGrown (noted_until all (until all weak f g) forms)
grown_until all weak f g forms hf hg grown x h p q =
    let u : Form = until all weak f g in
    let a : Form = next all (Some A) u in
    let b : Form = next all (Some B) u in
    let first : List Form = noted u forms in
    let second : List Form = noted a first in
    let third : List Form = noted b second in
    let on : AreWithin first third = λ y k. within_noted b second y (within_noted a first y k) in
    let up : AreWithin forms third = λ y k. on y (within_noted u forms y k) in
    let has_u : Contains third u = on u (has_noted u forms) in
    let has_a : Contains third a = within_noted b second a (has_noted a first) in
    let has_b : Contains third b = has_noted b second in
    let of_next : AreWithin (u ∷ []) third = within_cons u [] third has_u (within_nil third) in
    let of_until : AreWithin (f ∷ g ∷ a ∷ b ∷ []) third = within_cons f (g ∷ a ∷ b ∷ []) third (up f hf) (within_cons g (a ∷ b ∷ []) third (up g hg) (within_cons a (b ∷ []) third has_a (within_cons b [] third has_b (within_nil third)))) in
    elim (noted_cases b second x h) [
      | inl k ↦ elim (noted_cases a first x k) [
        | inl l ↦ elim (noted_cases u forms x l) [
          | inl m ↦ up p (grown x m p q)
          | inr e ↦ of_until p (subst (λ y. Contains (brings y) p) (sym e) q)
        ]
        | inr e ↦ of_next p (subst (λ y. Contains (brings y) p) (sym e) q)
      ]
      | inr e ↦ of_next p (subst (λ y. Contains (brings y) p) (sym e) q)
    ]

grown_plain : (f : Form) (forms : List Form) → brings f ≡ [] → IsGrown forms → IsGrown (noted f forms)
grown_plain f forms e grown = grown_noted f forms (subst (λ fs. AreWithin fs (noted f forms)) (sym e) (within_nil (noted f forms))) grown

grown_pair : (h f g : Form) (forms : List Form) → brings h ≡ f ∷ g ∷ [] → Contains forms f → Contains forms g → IsGrown forms → IsGrown (noted h forms)
grown_pair h f g forms e hf hg grown = grown_noted h forms (subst (λ fs. AreWithin fs (noted h forms)) (sym e) (within_cons f (g ∷ []) (noted h forms) (within_noted h forms f hf) (within_cons g [] (noted h forms) (within_noted h forms g hg) (within_nil (noted h forms))))) grown

-- a walk leaves a grown list grown
pub grown_walk : (f : Form) (forms : List Form) → IsGrown forms → IsGrown (walk f forms)
grown_walk truth forms grown = grown_plain truth forms refl grown
grown_walk falsity forms grown = grown_plain falsity forms refl grown
grown_walk (at side local) forms grown = grown_plain (at side local) forms refl grown
grown_walk (neg f) forms grown = grown_plain (neg f) forms refl grown
grown_walk (both f g) forms grown = grown_pair (both f g) f g (walk g (walk f forms)) refl (within_walk g (walk f forms) f (has_walk f forms)) (has_walk g (walk f forms)) (grown_walk g (walk f forms) (grown_walk f forms grown))
grown_walk (either f g) forms grown = grown_pair (either f g) f g (walk g (walk f forms)) refl (within_walk g (walk f forms) f (has_walk f forms)) (has_walk g (walk f forms)) (grown_walk g (walk f forms) (grown_walk f forms grown))
grown_walk (implies f g) forms grown = grown_plain (implies f g) forms refl grown
grown_walk (next all side f) forms grown =
    let more : List Form = noted (next all side f) (walk f forms) in
    grown_noted (next all side f) (walk f forms) (within_cons f [] more (within_noted (next all side f) (walk f forms) f (has_walk f forms)) (within_nil more)) (grown_walk f forms grown)
grown_walk (always all f) forms grown = grown_plain (always all f) forms refl grown
grown_walk (sometime all f) forms grown = grown_plain (sometime all f) forms refl grown
grown_walk (until all weak f g) forms grown = grown_until all weak f g (walk g (walk f forms)) (within_walk g (walk f forms) f (has_walk f forms)) (has_walk g (walk f forms)) (grown_walk g (walk f forms) (grown_walk f forms grown))

pair_again : (h f g : Form) (forms : List Form) → Contains forms h → walk f forms ≡ forms → walk g forms ≡ forms → noted h (walk g (walk f forms)) ≡ forms
pair_again h f g forms known ef eg = subst (λ l. noted h (walk g l) ≡ forms) (sym ef) (subst (λ l. noted h l ≡ forms) (sym eg) (noted_known h forms known))

second_of : (f g : Form) (fs : List Form) → Contains (f ∷ g ∷ fs) g
second_of f g fs = (1, omega arith, refl)

-- a walk of a formula that a grown list has does nothing
pub walk_known : (f : Form) (forms : List Form) → IsGrown forms → Contains forms f → walk f forms ≡ forms
walk_known truth forms grown known = noted_known truth forms known
walk_known falsity forms grown known = noted_known falsity forms known
walk_known (at side local) forms grown known = noted_known (at side local) forms known
walk_known (neg f) forms grown known = noted_known (neg f) forms known
walk_known (both f g) forms grown known = pair_again (both f g) f g forms known (walk_known f forms grown (grown (both f g) known f (0, omega arith, refl))) (walk_known g forms grown (grown (both f g) known g (1, omega arith, refl)))
walk_known (either f g) forms grown known = pair_again (either f g) f g forms known (walk_known f forms grown (grown (either f g) known f (0, omega arith, refl))) (walk_known g forms grown (grown (either f g) known g (1, omega arith, refl)))
walk_known (implies f g) forms grown known = noted_known (implies f g) forms known
walk_known (next all side f) forms grown known = subst (λ l. noted (next all side f) l ≡ forms) (sym (walk_known f forms grown (grown (next all side f) known f (0, omega arith, refl)))) (noted_known (next all side f) forms known)
walk_known (always all f) forms grown known = noted_known (always all f) forms known
walk_known (sometime all f) forms grown known = noted_known (sometime all f) forms known
walk_known (until all weak f g) forms grown known =
    let u : Form = until all weak f g in
    let a : Form = next all (Some A) u in
    let b : Form = next all (Some B) u in
    let first : noted u (walk g (walk f forms)) ≡ forms = pair_again u f g forms known (walk_known f forms grown (grown u known f (0, omega arith, refl))) (walk_known g forms grown (grown u known g (1, omega arith, refl))) in
    subst (λ l. noted b (noted a l) ≡ forms) (sym first) (subst (λ l. noted b l ≡ forms) (sym (noted_known a forms (grown u known a (2, omega arith, refl)))) (noted_known b forms (grown u known b (3, omega arith, refl))))

noted_within : (f : Form) (forms others : List Form) → Contains others f → AreWithin forms others → AreWithin (noted f forms) others
noted_within f forms others has within x h = elim (noted_cases f forms x h) [ inl k ↦ within x k | inr e ↦ subst (λ y. Contains others y) e has ]

-- a walk of a formula of a grown list adds members of that list alone
pub walk_within : (f : Form) (forms others : List Form) → IsGrown others → Contains others f → AreWithin forms others → AreWithin (walk f forms) others
walk_within truth forms others grown has within = noted_within truth forms others has within
walk_within falsity forms others grown has within = noted_within falsity forms others has within
walk_within (at side local) forms others grown has within = noted_within (at side local) forms others has within
walk_within (neg f) forms others grown has within = noted_within (neg f) forms others has within
walk_within (both f g) forms others grown has within = noted_within (both f g) (walk g (walk f forms)) others has (walk_within g (walk f forms) others grown (grown (both f g) has g (1, omega arith, refl)) (walk_within f forms others grown (grown (both f g) has f (0, omega arith, refl)) within))
walk_within (either f g) forms others grown has within = noted_within (either f g) (walk g (walk f forms)) others has (walk_within g (walk f forms) others grown (grown (either f g) has g (1, omega arith, refl)) (walk_within f forms others grown (grown (either f g) has f (0, omega arith, refl)) within))
walk_within (implies f g) forms others grown has within = noted_within (implies f g) forms others has within
walk_within (next all side f) forms others grown has within = noted_within (next all side f) (walk f forms) others has (walk_within f forms others grown (grown (next all side f) has f (0, omega arith, refl)) within)
walk_within (always all f) forms others grown has within = noted_within (always all f) forms others has within
walk_within (sometime all f) forms others grown has within = noted_within (sometime all f) forms others has within
walk_within (until all weak f g) forms others grown has within =
    let u : Form = until all weak f g in
    let a : Form = next all (Some A) u in
    let b : Form = next all (Some B) u in
    let before : List Form = walk g (walk f forms) in
    let parts : AreWithin before others = walk_within g (walk f forms) others grown (grown u has g (1, omega arith, refl)) (walk_within f forms others grown (grown u has f (0, omega arith, refl)) within) in
    noted_within b (noted a (noted u before)) others (grown u has b (3, omega arith, refl)) (noted_within a (noted u before) others (grown u has a (2, omega arith, refl)) (noted_within u before others has parts))

-- no formula stands twice
pub distinct_noted : (f : Form) (forms : List Form) → IsDistinct same_form forms → IsDistinct same_form (noted f forms)
distinct_noted f forms d = elim (known_or_new f forms) [ inl k ↦ subst (λ l. IsDistinct same_form l) (sym k.1) d | inr k ↦ subst (λ l. IsDistinct same_form l) (sym k.2) (IsDistinct-push same_form_equivalence forms f d k.1) ]

pub length_noted : (f : Form) (forms : List Form) → length forms ≤ length (noted f forms)
length_noted f forms = elim (known_or_new f forms) [ inl k ↦ omega (arith, ap length k.1) | inr k ↦ omega (arith, ap length k.2, length-append forms (f ∷ [])) ]

pub length_walk : (f : Form) (forms : List Form) → length forms ≤ length (walk f forms)
length_walk f forms = walk_keeps (λ l. length forms ≤ length l) (λ g l h. omega (arith, h, length_noted g l)) f forms (omega arith)

-- the formulas keep their numbers
pub form_at_noted : (f : Form) (forms : List Form) (n : ℕ) → n < length forms → form_at (noted f forms) n ≡ form_at forms n
form_at_noted f forms n h = elim (known_or_new f forms) [ inl k ↦ ap (λ l. form_at l n) k.1 | inr k ↦ ap (λ l. form_at l n) k.2 ∙ get_or_append_left forms (f ∷ []) truth n h ]

pub form_at_walk : (f : Form) (forms : List Form) (n : ℕ) → n < length forms → form_at (walk f forms) n ≡ form_at forms n
form_at_walk f forms n h =
    (walk_keeps (λ l. (length forms ≤ length l) × (form_at l n ≡ form_at forms n)) (λ g l k. (omega (arith, k.0, length_noted g l), form_at_noted g l n (omega (arith, k.0, h)) ∙ k.1)) f forms (omega arith, refl)).1
