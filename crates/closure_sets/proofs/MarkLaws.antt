-- What is noted of a label, member by member.
use Rattle.std.proofs.Common.{ℕ, ◌≡◌, ◌<◌, ◌≤◌, ◌+◌, ◌++◌, Bool, true, false, cond, Option, None, is_some, List, [], ◌∷◌, length, refl, subst, sym, ◌∙◌, ap, arith, eqb, eqb-true, length-append}
use Rattle.std.proofs.Math.Decide.{dec_lt}
use Rattle.std.proofs.lemmas.List.{get_or_append_left, get_or_push}
use Rattle.ctl_form.specs.Form.{Form}
use Rattle.ctl_form.specs.Members.{form_at, forms_of, form_of_part, IsBelow}
use Rattle.ctl_form.specs.declared.part.Part.{Part}
use Rattle.ctl_form.specs.declared.part.Part.TheVariants.{Yes, No, Lit, Both, Either, Next, Until}
use Rattle.closure_sets.specs.ClosureParts.{ClosureParts, IsClosureParts, count}
use Rattle.closure_sets.specs.Expansion.{lowest, is_shared, clashes}
use Rattle.closure_sets.specs.Label.{part_of, form_of, value, wrong_of}
use Rattle.closure_sets.specs.inside.Marks.{AreValues, AreWrong, part_value, value_at}
use Rattle.closure_sets.specs.Row.{Members, add}
use Rattle.ctl_form.proofs.MemberLaws.{below_up}
use Rattle.closure_sets.proofs.Closures.{form_is}
use Rattle.closure_sets.proofs.Lowest.{lowest_same}
use Rattle.closure_sets.proofs.Sets.{add_same}

part_value_is : (label : ℕ × ℕ) (forms : List Form) (values : List (Option Bool)) (n : ℕ) → ((i : ℕ) → i < n → value_at values i ≡ value label (form_at forms i)) → (part : Part) → IsBelow n part → part_value label values part ≡ value label (form_of_part forms part)
part_value_is label forms values n each Yes below = refl
part_value_is label forms values n each No below = refl
part_value_is label forms values n each (Lit side local true) below = refl
part_value_is label forms values n each (Lit side local false) below = refl
part_value_is label forms values n each (Both f g) below = rw (each f below.0, each g below.1) refl
part_value_is label forms values n each (Either f g) below = rw (each f below.0, each g below.1) refl
part_value_is label forms values n each (Next all side f) below = refl
part_value_is label forms values n each (Until all weak f g) below = refl

pub part_below : (c : ClosureParts) → IsClosureParts c → (label : ℕ × ℕ) (n : ℕ) (values : List (Option Bool)) (part : Part) → n < count c → AreValues c label n values → part ≡ part_of c n → IsBelow (length values) part
part_below c k label n values part lt v p = rw (v.long, p) (k.numbering.rising n lt)

pub values_push : (c : ClosureParts) → IsClosureParts c → (label : ℕ × ℕ) (n : ℕ) (values more : List (Option Bool)) (x : Option Bool) (part : Part) → n < count c → AreValues c label n values → more ≡ values ++ x ∷ [] → part ≡ part_of c n → x ≡ part_value label values part → AreValues c label (n + 1) more
values_push c k label n values more x part lt v e p r = record { long = ap length e ∙ long; each = each }
  where
    long : length (values ++ x ∷ []) ≡ n + 1
    long = let l : length values ≡ n = v.long in rw length-append (omega (arith, l))

    now : x ≡ value label (form_of c n)
    now = r ∙ ap (part_value label values) p ∙ part_value_is label (forms_of c.parts) values n v.each (part_of c n) (k.numbering.rising n lt) ∙ ap (value label) (sym (form_is c k n lt))

    each : (i : ℕ) → i < n + 1 → value_at more i ≡ value label (form_of c i)
    each i l = elim (dec_lt i n) [ yes b ↦ (let inside : i < length values = (let q : length values ≡ n = v.long in omega (arith, b, q)) in rw (e, get_or_append_left values (x ∷ []) None i inside) (v.each i b)) | no g ↦ (let q : n ≡ i = omega (arith, l, g) in subst (λ j. value_at more j ≡ value label (form_of c j)) q (rw (e, get_or_push values x None n v.long) now)) ]

-- the members below n that are wrong are marked
pub record IsMarked (row : Members) (wrong : ℕ → Bool) (n : ℕ) : Type 0 where
  pub done : (i : ℕ) → i < n → row i ≡ wrong i
  pub rest : (i : ℕ) → n ≤ i → row i ≡ false

add_other : (row : Members) (m i : ℕ) → (i ≡ m → ⊥) → add row m i ≡ row i
add_other row m i ne = other (eqb i m) refl
  where
    other : (b : Bool) → eqb i m ≡ b → add row m i ≡ row i
    other true e = absurd (ne (eqb-true i m e))
    other false e = rw e refl

pub marked_yes : (row more : Members) (wrong : ℕ → Bool) (n : ℕ) → more ≡ add row n → wrong n ≡ true → IsMarked row wrong n → IsMarked more wrong (n + 1)
marked_yes row more wrong n e w h = record { done = done; rest = rest }
  where
    done : (i : ℕ) → i < n + 1 → more i ≡ wrong i
    done i lt = elim (dec_lt i n) [ yes l ↦ ap (λ (r : Members). r i) e ∙ add_other row n i (λ q. omega (arith, l, q)) ∙ h.done i l | no g ↦ (let q : n ≡ i = omega (arith, lt, g) in subst (λ j. more j ≡ wrong j) q (ap (λ (r : Members). r n) e ∙ add_same row n ∙ sym w)) ]

    rest : (i : ℕ) → n + 1 ≤ i → more i ≡ false
    rest i le = ap (λ (r : Members). r i) e ∙ add_other row n i (λ q. omega (arith, le, q)) ∙ h.rest i (omega (arith, le))

pub marked_no : (row : Members) (wrong : ℕ → Bool) (n : ℕ) → wrong n ≡ false → IsMarked row wrong n → IsMarked row wrong (n + 1)
marked_no row wrong n w h = record { done = done; rest = λ i le. h.rest i (omega (arith, le)) }
  where
    done : (i : ℕ) → i < n + 1 → row i ≡ wrong i
    done i lt = elim (dec_lt i n) [ yes l ↦ h.done i l | no g ↦ (let q : n ≡ i = omega (arith, lt, g) in subst (λ j. row j ≡ wrong j) q (h.rest n (omega arith) ∙ sym w)) ]

pub clashes_is : (c : ClosureParts) (label : ℕ × ℕ) (row wrong : Members) → AreWrong c label wrong → is_some (lowest (count c) (is_shared row wrong)) ≡ clashes c label row
clashes_is c label row wrong h = ap (λ (o : Option ℕ). is_some o) (lowest_same (count c) (is_shared row wrong) (is_shared row (wrong_of c label)) (λ i lt. rw (h i lt) refl))

pub marked_step : (row more : Members) (wrong : ℕ → Bool) (n : ℕ) (b : Bool) → more ≡ cond b (add row n) row → b ≡ wrong n → IsMarked row wrong n → IsMarked more wrong (n + 1)
marked_step row more wrong n true e w h = marked_yes row more wrong n e (sym w) h
marked_step row more wrong n false e w h = marked_no more wrong n (sym w) (subst (λ (r : Members). IsMarked r wrong n) (sym e) h)

pub below_of : (c : ClosureParts) → IsClosureParts c → (m : ℕ) (part : Part) → m < count c → part_of c m ≡ part → IsBelow (count c) part
below_of c k m part lt p = below_up m (count c) part (omega (arith, lt)) (subst (IsBelow m) p (k.numbering.rising m lt))
