-- The calm members of a star, and its steps among them.
use Rattle.std.proofs.Common.{ℕ, ◌≡◌, ◌<◌, ◌+◌, ◌-◌, ◌⊎◌, Bool, false, inl, inr, List, [], ◌∷◌, ◌++◌, length, get_or, take, arith, refl, sym, ◌∙◌, ap, subst, All, Contains}
use Rattle.std.specs.Ordering.{is_lt, nat_cmp}
use Rattle.std.specs.Cmp.Lexicographic.{slice_cmp, nat_list_cmp_total}
use Rattle.std.proofs.lemmas.Bool.{cases_lt}
use Rattle.std.proofs.lemmas.List.{length-append, length-take, take_all, get_or-take, get_or_append_left, get_or-append_right, get_or_default, take_more}
use Rattle.std.proofs.lemmas.List.Elements.{Contains-get_or, Contains-append_left, Contains-append_right, Contains-append_cases}
use Rattle.std.proofs.lemmas.List.Sorted.{ranks_by, sorted_far}
use Rattle.conjunctive_compose.proofs.Filters.{Contains-cases}
use Rattle.conjunctive_compose.specs.System.{SystemParts}
use Rattle.waitfor_check.specs.Accepted.{IsCalmAt}
use Rattle.waitfor_check.specs.Star.{IsStarState}
use Rattle.waitfor_check.specs.declared.star.Star.{Star}
use Rattle.waitfor_check.specs.Closed.{IsFirstMissing}
use Rattle.waitfor_check.specs.inside.Walk.{AreMembers, AreSorted}
use Rattle.waitfor_check.specs.Closed.{StepsStay}
use Rattle.waitfor_check.specs.Steps.{leaf_steps}
use Rattle.waitfor_check.specs.Waits.{IsFirstWaiting, centre_steps_at}
use Rattle.waitfor_check.specs.inside.Calm.{AreCalm}

abbrev is_below : List ℕ → List ℕ → Bool
is_below xs ys = is_lt (slice_cmp nat_cmp xs ys)

-- a sorted list with one more that is not below any of them
pub sorted_more : (xs : List (List ℕ)) (x : List ℕ) → AreSorted xs → ((y : List ℕ) → Contains xs y → is_below x y ≡ false) → AreSorted (xs ++ x ∷ [])
sorted_more xs x sorted above k d low lt = elim (cases_lt (k + 1) (length xs)) [
  | inl before ↦ (let left = get_or_append_left xs (x ∷ []) d k (omega (arith, before)) in
      let right = get_or_append_left xs (x ∷ []) d (k + 1) before in
      rw (left, right) (sorted k d low before))
  | inr after ↦ (let size = length-append xs (x ∷ []) in
      let in' : k < length xs = omega (arith, lt, size) in
      let left = get_or_append_left xs (x ∷ []) d k in' in
      let last : k + 1 - length xs ≡ 0 = omega (arith, lt, size) in
      let right : get_or (xs ++ x ∷ []) (k + 1) d ≡ x = get_or-append_right xs (x ∷ []) (length xs) (k + 1) d refl after ∙ ap (λ i. get_or (x ∷ []) i d) last in
      rw (left, right) (above (get_or xs k d) (k, in', get_or_default xs k _ d in')))
]

-- no member is below one that stands before it
pub not_below : (members : List (List ℕ)) (n : ℕ) → AreSorted members → n < length members → (y : List ℕ) → Contains (take n members) y → is_below (get_or members n []) y ≡ false
not_below members n sorted lt y (i, in', is) =
    let before : i < n = omega (arith, in', length-take n members) in
    let at : get_or members i y ≡ y = sym (get_or-take n members i y before) ∙ is in
    let far = sorted_far is_below (ranks_by nat_list_cmp_total (λ (x : List ℕ). x)) members sorted i n y (omega (arith, before)) lt in
    subst (λ x. is_below x y ≡ false) (get_or_default members n y [] lt) (subst (λ z. is_below (get_or members n y) z ≡ false) at far)

-- one member more, which is calm
pub calm_more : (sys : SystemParts) (star : Star) (n : ℕ) (calm : List (List ℕ)) → AreSorted star.members → n < length star.members → AreCalm sys star n calm → IsCalmAt sys star.shape (get_or star.members n []) → AreCalm sys star (n + 1) (calm ++ get_or star.members n [] ∷ [])
calm_more sys star n calm sorted lt are is = record {
  sorted = sorted_more calm x are.sorted (λ y has. not_below star.members n sorted lt y (are.from y has).0);
  few = omega (arith, are.few, length-append calm (x ∷ []));
  from = λ ys has. (subst (λ l. Contains l ys) (sym more) (in_more ys (Contains-append_cases calm (x ∷ []) ys has)), calm_now ys (Contains-append_cases calm (x ∷ []) ys has));
  has = λ ys has ok. elim (Contains-append_cases (take n star.members) (x ∷ []) ys (subst (λ l. Contains l ys) more has)) [ inl l ↦ Contains-append_left calm (x ∷ []) ys (are.has ys l ok) | inr r ↦ Contains-append_right calm (x ∷ []) ys r ];
}
  where
    x : List ℕ
    x = get_or star.members n []

    more : take (n + 1) star.members ≡ take n star.members ++ get_or star.members n [] ∷ []
    more = take_more star.members n [] lt

    in_more : (ys : List ℕ) → Contains calm ys ⊎ Contains (get_or star.members n [] ∷ []) ys → Contains (take n star.members ++ get_or star.members n [] ∷ []) ys
    in_more ys (inl l) = Contains-append_left (take n star.members) (get_or star.members n [] ∷ []) ys (are.from ys l).0
    in_more ys (inr r) = Contains-append_right (take n star.members) (get_or star.members n [] ∷ []) ys r

    calm_now : (ys : List ℕ) → Contains calm ys ⊎ Contains (get_or star.members n [] ∷ []) ys → IsCalmAt sys star.shape ys
    calm_now ys (inl l) = (are.from ys l).1
    calm_now ys (inr r) = elim (Contains-cases (get_or star.members n []) [] ys r) [ inl e ↦ subst (IsCalmAt sys star.shape) e is | inr l ↦ absurd (omega (arith, l.1)) ]

-- one member more, which is not
pub calm_same : (sys : SystemParts) (star : Star) (n : ℕ) (calm : List (List ℕ)) → n < length star.members → AreCalm sys star n calm → (IsCalmAt sys star.shape (get_or star.members n []) → ⊥) → AreCalm sys star (n + 1) calm
calm_same sys star n calm lt are not = record {
  sorted = are.sorted;
  few = omega (arith, are.few);
  from = λ ys has. (subst (λ l. Contains l ys) (sym more) (Contains-append_left (take n star.members) (get_or star.members n [] ∷ []) ys (are.from ys has).0), (are.from ys has).1);
  has = λ ys has ok. elim (Contains-append_cases (take n star.members) (get_or star.members n [] ∷ []) ys (subst (λ l. Contains l ys) more has)) [
    | inl l ↦ are.has ys l ok
    | inr r ↦ elim (Contains-cases (get_or star.members n []) [] ys r) [ inl e ↦ absurd (not (subst (IsCalmAt sys star.shape) (sym e) ok)) | inr l ↦ absurd (omega (arith, l.1)) ]
  ];
}
  where
    more : take (n + 1) star.members ≡ take n star.members ++ get_or star.members n [] ∷ []
    more = take_more star.members n [] lt

-- steps that all reach calm members
pub steps_calm : (sys : SystemParts) (star : Star) (calm steps : List (List ℕ)) (n count : ℕ) → AreCalm sys star n calm → AreMembers calm steps count → (i : ℕ) → i < length steps → IsCalmAt sys star.shape (get_or steps i [])
steps_calm sys star calm steps n count are all i lt = (are.from (get_or steps i []) (all.all i lt)).1

-- the first step that reaches no calm member, where all reach members
pub first_waits : (sys : SystemParts) (star : Star) (calm steps : List (List ℕ)) (n at : ℕ) → AreCalm sys star n calm → ((i : ℕ) → i < length steps → Contains (take n star.members) (get_or steps i [])) → IsFirstMissing calm steps at → IsFirstWaiting sys star.shape steps at
first_waits sys star calm steps n at are stay is = record {
  within = is.within;
  waits = λ ok. is.missing (are.has (get_or steps at []) (stay at is.within) ok);
  first = λ i lt. (are.from (get_or steps i []) (is.first i lt)).1;
}

-- where every step of a member reaches a member, so does every centre step, at the same place
pub centre_stays : (sys : SystemParts) (star : Star) (member : ℕ) → StepsStay sys star member → (i : ℕ) → i < length (centre_steps_at sys star member) → Contains (take (length star.members) star.members) (get_or (centre_steps_at sys star member) i [])
centre_stays sys star member stay i lt =
    let centre = centre_steps_at sys star member in
    let leaf = leaf_steps sys star.shape (get_or star.members member []) in
    let here = stay i (omega (arith, lt, length-append centre leaf)) in
    subst (λ l. Contains l (get_or centre i [])) (sym (take_all (length star.members) star.members (omega arith))) (subst (Contains star.members) (get_or_append_left centre leaf [] i lt) here)

-- calm members are as long as any star state
pub calm_long : (sys : SystemParts) (star : Star) (n : ℕ) (calm : List (List ℕ)) (states : List ℕ) → AreCalm sys star n calm → All (IsStarState sys star.shape) star.members → length states ≡ length star.shape.leaves → All (λ (member : List ℕ). length member ≡ length states) calm
calm_long sys star n calm states are all size k d lt =
    let found = (are.from (get_or calm k d) (Contains-get_or calm k d lt)).0 in
    let before : found.0 < n = omega (arith, found.1, length-take n star.members) in
    let within : found.0 < length star.members = omega (arith, found.1, length-take n star.members) in
    let at : get_or star.members found.0 (get_or calm k d) ≡ get_or calm k d = sym (get_or-take n star.members found.0 (get_or calm k d) before) ∙ found.2 in
    let state = subst (λ (xs : List ℕ). IsStarState sys star.shape xs) at (all found.0 (get_or calm k d) within) in
    state.count ∙ sym size
