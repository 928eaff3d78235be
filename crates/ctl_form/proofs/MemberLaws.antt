-- Parts in order and the formulas that they give: one more part gives one more formula, and different parts give different formulas.
use Rattle.std.proofs.Common.{ℕ, zero, suc, ◌≡◌, ◌⊎◌, ◌<◌, ◌≤◌, ◌+◌, inl, inr, Bool, true, false, cond, Option, Some, None, List, [], ◌∷◌, ◌++◌, arith, refl, sym, ◌∙◌, ap, subst, length, length-append, get_or, below_more}
use Rattle.std.specs.List.{Contains, IsDistinct}
use Rattle.std.proofs.lemmas.List.{get_or_append_left}
use Rattle.std.proofs.lemmas.List.Elements.{at_from_Contains}
use Rattle.std.proofs.lemmas.Map.Keys.{IsDistinct-push, IsDistinct-tail, apart_from_distinct}
use Rattle.pair_structure.specs.declared.side.Side.{Side}
use Rattle.ctl_form.specs.declared.limits.TheConstants.{MAX_MEMBERS}
use Rattle.ctl_form.specs.Form.{Form, truth, falsity, at, neg, both, either, implies, next, always, sometime, until}
use Rattle.ctl_form.specs.Members.{part_at, form_at, form_of_part, forms_from, forms_of, IsBelow}
use Rattle.ctl_form.specs.MemberTable.{IsNumbering, IsIndex, IsNumbered}
use Rattle.ctl_form.specs.Walk.{same_form, has_form, noted}
use Rattle.ctl_form.specs.declared.part.Part.{Part}
use Rattle.ctl_form.specs.declared.part.Part.TheVariants.{Yes, No, Lit, Both, Either, Next, Until}
use Rattle.ctl_form.proofs.WalkLaws.{same_form_equivalence, known_or_new, noted_known, noted_new}

pub forms_from-push : (forms : List Form) (ps : List Part) (p : Part) → forms_from forms (ps ++ p ∷ []) ≡ forms_from forms ps ++ form_of_part (forms_from forms ps) p ∷ []
forms_from-push forms [] p = refl
forms_from-push forms (q ∷ ps) p = forms_from-push (forms ++ form_of_part forms q ∷ []) ps p

length-forms_from : (forms : List Form) (ps : List Part) → length (forms_from forms ps) ≡ length forms + length ps
length-forms_from forms [] = omega arith
length-forms_from forms (p ∷ ps) = omega (arith, length-forms_from (forms ++ form_of_part forms p ∷ []) ps, length-append forms (form_of_part forms p ∷ []))

pub length-forms_of : (parts : List Part) → length (forms_of parts) ≡ length parts
length-forms_of parts = omega (arith, length-forms_from [] parts)

pub last_at : {X : Type 0} (xs : List X) (x d : X) → get_or (xs ++ x ∷ []) (length xs) d ≡ x
last_at [] x d = refl
last_at (y ∷ ys) x d = last_at ys x d

pub below_up : (m n : ℕ) (p : Part) → m ≤ n → IsBelow m p → IsBelow n p
below_up m n Yes le h = h
below_up m n No le h = h
below_up m n (Lit side local is) le h = h
below_up m n (Both f g) le h = (omega (arith, h.0), omega (arith, h.1))
below_up m n (Either f g) le h = (omega (arith, h.0), omega (arith, h.1))
below_up m n (Next all side f) le h = omega (arith, h)
below_up m n (Until all weak f g) le h = (omega (arith, h.0), omega (arith, h.1))

two_more : (make : Form → Form → Form) (forms more : List Form) (f g : ℕ) → f < length forms → g < length forms → make (form_at (forms ++ more) f) (form_at (forms ++ more) g) ≡ make (form_at forms f) (form_at forms g)
two_more make forms more f g hf hg = let a = get_or_append_left forms more truth f hf in let b = get_or_append_left forms more truth g hg in cc

-- more members change nothing in what a part means
pub form_of_part-more : (forms more : List Form) (p : Part) → IsBelow (length forms) p → form_of_part (forms ++ more) p ≡ form_of_part forms p
form_of_part-more forms more Yes h = refl
form_of_part-more forms more No h = refl
form_of_part-more forms more (Lit side local is) h = refl
form_of_part-more forms more (Both f g) h = two_more both forms more f g h.0 h.1
form_of_part-more forms more (Either f g) h = two_more either forms more f g h.0 h.1
form_of_part-more forms more (Next all side f) h = ap (next all (Some side)) (get_or_append_left forms more truth f h)
form_of_part-more forms more (Until all weak f g) h = two_more (until all weak) forms more f g h.0 h.1

-- the first place of a formula
abbrev place : Form → List Form → ℕ
place f [] = 0
place f (g ∷ gs) = cond (same_form f g) 0 (suc (place f gs))

place_at : (forms : List Form) (n : ℕ) → IsDistinct same_form forms → n < length forms → place (form_at forms n) forms ≡ n
place_at [] n d h = absurd (omega (arith, h))
place_at (g ∷ gs) zero d h = ap (λ b. cond b 0 (suc (place g gs))) (same_form_equivalence.refl g)
place_at (g ∷ gs) (suc n) d h =
    let apart : same_form (form_at gs n) g ≡ false = same_form_equivalence.symm (form_at gs n) g ∙ apart_from_distinct same_form (g ∷ gs) 0 (suc n) truth d (omega arith) h in
    ap (λ b. cond b 0 (suc (place (form_at gs n) gs))) apart ∙ ap suc (place_at gs n (IsDistinct-tail same_form g gs d) (omega (arith, h)))

abbrev negated : Form → Part
negated (at side local) = Lit side local false
negated _ = Yes

abbrev next_part : Bool → Option Side → ℕ → Part
next_part all None n = Yes
next_part all (Some side) n = Next all side n

-- the part of a formula
abbrev part_of : List Form → Form → Part
part_of forms truth = Yes
part_of forms falsity = No
part_of forms (at side local) = Lit side local true
part_of forms (neg f) = negated f
part_of forms (both f g) = Both (place f forms) (place g forms)
part_of forms (either f g) = Either (place f forms) (place g forms)
part_of forms (implies f g) = Yes
part_of forms (next all side f) = next_part all side (place f forms)
part_of forms (always all f) = Yes
part_of forms (sometime all f) = Yes
part_of forms (until all weak f g) = Until all weak (place f forms) (place g forms)

two_placed : (make : ℕ → ℕ → Part) (forms : List Form) (f g : ℕ) → IsDistinct same_form forms → f < length forms → g < length forms → make (place (form_at forms f) forms) (place (form_at forms g) forms) ≡ make f g
two_placed make forms f g d hf hg = let a = place_at forms f d hf in let b = place_at forms g d hg in cc

part_back : (forms : List Form) (p : Part) → IsDistinct same_form forms → IsBelow (length forms) p → part_of forms (form_of_part forms p) ≡ p
part_back forms Yes d h = refl
part_back forms No d h = refl
part_back forms (Lit side local true) d h = refl
part_back forms (Lit side local false) d h = refl
part_back forms (Both f g) d h = two_placed Both forms f g d h.0 h.1
part_back forms (Either f g) d h = two_placed Either forms f g d h.0 h.1
part_back forms (Next all side f) d h = ap (Next all side) (place_at forms f d h)
part_back forms (Until all weak f g) d h = two_placed (Until all weak) forms f g d h.0 h.1

-- among different formulas, different parts give different formulas
pub part_same : (forms : List Form) (p q : Part) → IsDistinct same_form forms → IsBelow (length forms) p → IsBelow (length forms) q → form_of_part forms p ≡ form_of_part forms q → p ≡ q
part_same forms p q d hp hq e = sym (part_back forms p d hp) ∙ ap (part_of forms) e ∙ part_back forms q d hq

-- no member has this part
abbrev pub IsNew : List Part → Part → Type 0
IsNew parts p = (n : ℕ) → n < length parts → part_at parts n ≡ p → ⊥

-- a part that no member has gives a formula that no member is
pub new_form : (parts : List Part) (p : Part) → IsNumbering parts → IsBelow (length parts) p → IsNew parts p → Contains (forms_of parts) (form_of_part (forms_of parts) p) → ⊥
new_form parts p numbering below new has =
    let forms : List Form = forms_of parts in
    let long : length forms ≡ length parts = length-forms_of parts in
    let u = at_from_Contains forms (form_of_part forms p) has in
    let n : ℕ = u.0 in
    let within : n < length parts = omega (arith, u.1, long) in
    let low : IsBelow (length forms) (part_at parts n) = below_up n (length forms) (part_at parts n) (omega (arith, u.1)) (numbering.rising n within) in
    let low' : IsBelow (length forms) p = below_up (length parts) (length forms) p (omega (arith, long)) below in
    new n within (part_same forms (part_at parts n) p numbering.distinct low low' (sym (numbering.stands n within) ∙ u.2 truth))

record IsStanding (parts : List Part) (forms : List Form) : Type 0 where
  stands : (n : ℕ) → n < length parts → form_at forms n ≡ form_of_part forms (part_at parts n)

stands_push : (parts : List Part) (p : Part) → IsNumbering parts → IsBelow (length parts) p → IsStanding (parts ++ p ∷ []) (forms_of parts ++ form_of_part (forms_of parts) p ∷ [])
stands_push parts p numbering below =
    let forms : List Form = forms_of parts in
    let f : Form = form_of_part forms p in
    let forms' : List Form = forms ++ f ∷ [] in
    let parts' : List Part = parts ++ p ∷ [] in
    let long : length forms ≡ length parts = length-forms_of parts in
    let old : (k : ℕ) → k < length parts → form_at forms' k ≡ form_of_part forms' (part_at parts' k) = λ k lt.
    get_or_append_left forms (f ∷ []) truth k (omega (arith, long, lt)) ∙ numbering.stands k lt
    ∙ sym (form_of_part-more forms (f ∷ []) (part_at parts k) (below_up k (length forms) (part_at parts k) (omega (arith, long, lt)) (numbering.rising k lt)))
    ∙ ap (form_of_part forms') (sym (get_or_append_left parts (p ∷ []) Yes k lt)) in
    let last : form_at forms' (length parts) ≡ form_of_part forms' (part_at parts' (length parts)) =
    subst (λ (k : ℕ). form_at forms' k ≡ f) long (last_at forms f truth)
    ∙ sym (form_of_part-more forms (f ∷ []) p (below_up (length parts) (length forms) p (omega (arith, long)) below))
    ∙ ap (form_of_part forms') (sym (last_at parts p Yes)) in
    record { stands = λ n h. below_more (λ k. form_at forms' k ≡ form_of_part forms' (part_at parts' k)) (length parts) old last n (omega (arith, h, length-append parts (p ∷ []))) }

-- a new part leaves a numbering
pub numbering_push : (parts : List Part) (p : Part) → IsNumbering parts → IsBelow (length parts) p → IsNew parts p → length parts < MAX_MEMBERS → IsNumbering (parts ++ p ∷ [])
numbering_push parts p numbering below new room =
    let forms : List Form = forms_of parts in
    let f : Form = form_of_part forms p in
    let parts' : List Part = parts ++ p ∷ [] in
    let e : forms_of parts' ≡ forms ++ f ∷ [] = forms_from-push [] parts p in
    let standing : IsStanding parts' (forms_of parts') = subst (IsStanding parts') (sym e) (stands_push parts p numbering below) in
    let apart : has_form forms f ≡ false = elim (known_or_new f forms) [ inl k ↦ absurd (new_form parts p numbering below new k.0) | inr k ↦ k.1 ] in
    record {
      few = omega (arith, room, length-append parts (p ∷ []));
      rising = λ n h. below_more (λ k. IsBelow k (part_at parts' k)) (length parts) (λ k lt. subst (IsBelow k) (sym (get_or_append_left parts (p ∷ []) Yes k lt)) (numbering.rising k lt)) (subst (IsBelow (length parts)) (sym (last_at parts p Yes)) below) n (omega (arith, h, length-append parts (p ∷ [])));
      stands = standing.stands;
      distinct = subst (λ l. IsDistinct same_form l) (sym e) (IsDistinct-push same_form_equivalence forms f numbering.distinct apart);
    }

cond_missed : (b : Bool) (x y : Option ℕ) → (b ≡ true → ⊥) → cond b x y ≡ y
cond_missed true x y never = absurd (never refl)
cond_missed false x y never = refl

cond_some_cases : (b : Bool) (m n : ℕ) (o : Option ℕ) → cond b (Some m) o ≡ Some n → ((b ≡ true) × (m ≡ n)) ⊎ (o ≡ Some n)
cond_some_cases true m n o e = let h : Some m ≡ Some n = e in inl (refl, cc)
cond_some_cases false m n o e = inr e

-- the look-up that also has the new part
pub index_push : (parts : List Part) (p : Part) (look look' : Part → Option ℕ) (hits : Part → Bool) → IsIndex parts look → IsNew parts p → ((q : Part) → hits q ≡ true → p ≡ q) → ((q : Part) → look' q ≡ cond (hits q) (Some (length parts)) (look q)) → look' p ≡ Some (length parts) → IsIndex (parts ++ p ∷ []) look'
index_push parts p look look' hits index new exact updates here =
    let parts' : List Part = parts ++ p ∷ [] in
    let long : length parts' ≡ length parts + 1 = length-append parts (p ∷ []) in
    let same : (k : ℕ) → k < length parts → part_at parts' k ≡ part_at parts k = λ k lt. get_or_append_left parts (p ∷ []) Yes k lt in
    let old : (k : ℕ) → k < length parts → look' (part_at parts' k) ≡ Some k = λ k lt.
    ap look' (same k lt) ∙ updates (part_at parts k) ∙ cond_missed (hits (part_at parts k)) (Some (length parts)) (look (part_at parts k)) (λ hit. new k lt (sym (exact (part_at parts k) hit))) ∙ index.found k lt in
    record {
      found = λ n h. below_more (λ k. look' (part_at parts' k) ≡ Some k) (length parts) old (ap look' (last_at parts p Yes) ∙ here) n (omega (arith, h, long));
      within = λ q n e. elim (cond_some_cases (hits q) (length parts) n (look q) (sym (updates q) ∙ e)) [ inl h ↦ omega (arith, long, h.1) | inr o ↦ omega (arith, long, index.within q n o) ];
      only = λ q n e. elim (cond_some_cases (hits q) (length parts) n (look q) (sym (updates q) ∙ e)) [ inl h ↦ ap (part_at parts') (sym h.1) ∙ last_at parts p Yes ∙ exact q h.0 | inr o ↦ same n (index.within q n o) ∙ index.only q n o ];
    }

get_same : {X : Type 0} (xs : List X) (n : ℕ) (c d : X) → n < length xs → get_or xs n c ≡ get_or xs n d
get_same [] n c d h = absurd (omega (arith, h))
get_same (x ∷ xs) zero c d h = refl
get_same (x ∷ xs) (suc n) c d h = get_same xs n c d (omega (arith, h))

-- the answer for a part that a member has
pub numbered_found : (parts : List Part) (p : Part) (n : ℕ) → IsNumbering parts → n < length parts → part_at parts n ≡ p → IsNumbered (noted (form_of_part (forms_of parts) p) (forms_of parts)) (form_of_part (forms_of parts) p) parts n
numbered_found parts p n numbering below e =
    let forms : List Form = forms_of parts in
    let is : form_at forms n ≡ form_of_part forms p = numbering.stands n below ∙ ap (form_of_part forms) e in
    let within : n < length forms = omega (arith, below, length-forms_of parts) in
    let has : Contains forms (form_of_part forms p) = subst (λ f. Contains forms f) is (n, within, get_same forms n (form_at forms n) truth within) in
    record { forms = sym (noted_known (form_of_part forms p) forms has); below = below; is = is }

-- the answer for a new part
pub numbered_added : (parts parts' : List Part) (p : Part) (n : ℕ) → IsNumbering parts → IsBelow (length parts) p → IsNew parts p → n ≡ length parts → parts' ≡ parts ++ p ∷ [] → IsNumbered (noted (form_of_part (forms_of parts) p) (forms_of parts)) (form_of_part (forms_of parts) p) parts' n
numbered_added parts parts' p n numbering below new at_end e =
    let forms : List Form = forms_of parts in
    let f : Form = form_of_part forms p in
    let all : forms_of parts' ≡ forms ++ f ∷ [] = ap forms_of e ∙ forms_from-push [] parts p in
    let long : n ≡ length forms = at_end ∙ sym (length-forms_of parts) in
    record {
      forms = all ∙ sym (noted_new f forms (new_form parts p numbering below new));
      below = omega (arith, at_end, ap length e, length-append parts (p ∷ []));
      is = ap (λ l. form_at l n) all ∙ ap (form_at (forms ++ f ∷ [])) long ∙ last_at forms f truth;
    }

-- there is no room for a new part
pub over_added : (parts : List Part) (p : Part) → IsNumbering parts → IsBelow (length parts) p → IsNew parts p → MAX_MEMBERS ≤ length parts → MAX_MEMBERS < length (noted (form_of_part (forms_of parts) p) (forms_of parts))
over_added parts p numbering below new full =
    let forms : List Form = forms_of parts in
    let f : Form = form_of_part forms p in
    omega (arith, full, length-forms_of parts, ap length (noted_new f forms (new_form parts p numbering below new)), length-append forms (f ∷ []))
