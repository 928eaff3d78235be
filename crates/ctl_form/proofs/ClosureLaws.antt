-- The walk of the roots gives the closure.
use Rattle.std.proofs.Common.{◌≡◌, ◌≤◌, inl, inr, true, false, Some, List, [], ◌∷◌, ◌++◌, arith, refl, sym, ◌∙◌, subst, length}
use Rattle.std.specs.List.{Contains, IsDistinct}
use Rattle.std.proofs.lemmas.List.Elements.{Contains-append_cases, Contains-append_right, Contains-push_cases}
use Rattle.std.proofs.lemmas.Map.Keys.{IsDistinct-from_apart, apart_from_distinct}
use Rattle.std.proofs.lemmas.Map.Made.{is_member-Decides, length-le_from_is_member}
use Rattle.pair_structure.specs.declared.side.Side.TheVariants.{A, B}
use Rattle.ctl_form.specs.Closure.{opening, brings, AreWithin, IsGrown, IsClosed, IsClosure}
use Rattle.ctl_form.specs.Form.{Form, truth, falsity, next}
use Rattle.ctl_form.specs.Members.{form_at}
use Rattle.ctl_form.specs.Walk.{same_form, noted, walk, walk_all, members_of}
use Rattle.ctl_form.proofs.WalkLaws.{same_form_decides, same_form_equivalence, within_nil, within_cons, walk_keeps, within_walk, has_walk, grown_walk, walk_within, distinct_noted, length_walk}

-- what holds of the first formula and of each later one
each_cons : (P : Form → Type 0) (f : Form) (fs : List Form) → P f → ((x : Form) → Contains fs x → P x) → (x : Form) → Contains (f ∷ fs) x → P x
each_cons P f fs here rest x h = elim (Contains-append_cases (f ∷ []) fs x h) [ inl k ↦ elim (Contains-push_cases [] f x k) [ inl none ↦ absurd (omega (arith, none.1)) | inr e ↦ subst P e here ] | inr k ↦ rest x k ]

none_of : (P : Form → Type 0) (x : Form) → Contains [] x → P x
none_of P x h = absurd (omega (arith, h.1))

head_within : (f : Form) (fs forms : List Form) → AreWithin (f ∷ fs) forms → Contains forms f
head_within f fs forms w = w f (0, omega arith, refl)

tail_within : (f : Form) (fs forms : List Form) → AreWithin (f ∷ fs) forms → AreWithin fs forms
tail_within f fs forms w x h = w x (Contains-append_right (f ∷ []) fs x h)

pub opening_noted : noted (next false (Some B) truth) (noted (next false (Some A) truth) (noted falsity (noted truth []))) ≡ opening
unfolding noted
opening_noted = refl

pub distinct_nil : IsDistinct same_form []
distinct_nil = IsDistinct-from_apart same_form [] (λ i j d a b. absurd (omega (arith, b)))

distinct_opening : IsDistinct same_form opening
distinct_opening = subst (λ l. IsDistinct same_form l) opening_noted (distinct_noted (next false (Some B) truth) (noted (next false (Some A) truth) (noted falsity (noted truth []))) (distinct_noted (next false (Some A) truth) (noted falsity (noted truth [])) (distinct_noted falsity (noted truth []) (distinct_noted truth [] distinct_nil))))

pub grown_opening : IsGrown opening
grown_opening =
    let a : Form = next false (Some A) truth in
    let b : Form = next false (Some B) truth in
    let P : Form → Type 0 = λ f. AreWithin (brings f) opening in
    let has : Contains opening truth = (0, omega arith, refl) in
    let one : AreWithin (truth ∷ []) opening = within_cons truth [] opening has (within_nil opening) in
    each_cons P truth (falsity ∷ a ∷ b ∷ []) (within_nil opening) (each_cons P falsity (a ∷ b ∷ []) (within_nil opening) (each_cons P a (b ∷ []) one (each_cons P b [] one (none_of P))))

within_walk_all : (fs forms : List Form) → AreWithin forms (walk_all fs forms)
within_walk_all [] forms x h = h
within_walk_all (f ∷ fs) forms x h = within_walk_all fs (walk f forms) x (within_walk f forms x h)

has_walk_all : (fs forms : List Form) → AreWithin fs (walk_all fs forms)
has_walk_all [] forms = within_nil forms
has_walk_all (f ∷ fs) forms = within_cons f fs (walk_all fs (walk f forms)) (within_walk_all fs (walk f forms) f (has_walk f forms)) (has_walk_all fs (walk f forms))

pub grown_walk_all : (fs forms : List Form) → IsGrown forms → IsGrown (walk_all fs forms)
grown_walk_all [] forms grown = grown
grown_walk_all (f ∷ fs) forms grown = grown_walk_all fs (walk f forms) (grown_walk f forms grown)

walk_all_within : (fs forms others : List Form) → IsGrown others → AreWithin fs others → AreWithin forms others → AreWithin (walk_all fs forms) others
walk_all_within [] forms others grown has within = within
walk_all_within (f ∷ fs) forms others grown has within = walk_all_within fs (walk f forms) others grown (tail_within f fs others has) (walk_within f forms others grown (head_within f fs others has) within)

distinct_walk_all : (fs forms : List Form) → IsDistinct same_form forms → IsDistinct same_form (walk_all fs forms)
distinct_walk_all [] forms d = d
distinct_walk_all (f ∷ fs) forms d = distinct_walk_all fs (walk f forms) (walk_keeps (λ l. IsDistinct same_form l) distinct_noted f forms d)

pub length_walk_all : (fs forms : List Form) → length forms ≤ length (walk_all fs forms)
length_walk_all [] forms = omega arith
length_walk_all (f ∷ fs) forms = omega (arith, length_walk_all fs (walk f forms), length_walk f forms)

pub walk_all-append : (fs gs forms : List Form) → walk_all (fs ++ gs) forms ≡ walk_all gs (walk_all fs forms)
walk_all-append [] gs forms = refl
walk_all-append (f ∷ fs) gs forms = walk_all-append fs gs (walk f forms)

pub distinct_members : (roots : List Form) → IsDistinct same_form (members_of roots)
distinct_members roots = distinct_walk_all roots opening distinct_opening

same_form_false : (f g : Form) → same_form f g ≡ false → f ≡ g → ⊥
same_form_false f g e same = let h : false ≡ true = sym e ∙ (same_form_decides f g).1 same in cc

-- the members are the closure of the roots
pub members_closure : (roots : List Form) → IsClosure roots (members_of roots)
members_closure roots = record {
  closed = record {
    opens = within_walk_all roots opening;
    rooted = has_walk_all roots opening;
    grown = grown_walk_all roots opening grown_opening;
  };
  least = λ others closed. walk_all_within roots opening others closed.grown closed.rooted closed.opens;
  distinct = λ i j before within. same_form_false (form_at (members_of roots) i) (form_at (members_of roots) j) (apart_from_distinct same_form (members_of roots) i j truth (distinct_members roots) before within);
}

-- no closed list is shorter than the closure
pub length-members_of : (roots others : List Form) → IsClosed roots others → length (members_of roots) ≤ length others
length-members_of roots others closed =
    length-le_from_is_member same_form_equivalence (members_of roots) others (distinct_members roots)
    (λ q h. (is_member-Decides same_form_decides others q).1 ((members_closure roots).least others closed q ((is_member-Decides same_form_decides (members_of roots) q).0 h)))
