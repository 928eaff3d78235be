-- Shapes differ exactly where their keys, in order, rise.
use Rattle.std.proofs.Common.{ℕ, ◌≡◌, ◌<◌, ◌≤◌, ◌+◌, ◌↔◌, ◌⊎◌, inl, inr, suc, Bool, true, false, List, [], ◌∷◌, length, get_or, map, arith, refl, sym, ◌∙◌, ap, subst, Contains}
use Rattle.std.specs.List.{remove}
use Rattle.std.specs.Ordering.{is_lt, nat_cmp, ordering_reverse}
use Rattle.std.specs.Cmp.Lexicographic.{slice_cmp, nat_list_cmp_total}
use Rattle.std.specs.FinMap.{slice_cmp-IsAntisymmetric, nat_cmp-IsAntisymmetric}
use Rattle.std.specs.declared.cmp.Ordering.{Ordering}
use Rattle.std.specs.declared.cmp.Ordering.TheVariants.{Less, Equal, Greater}
use Rattle.std.specs.List.Sorted.{IsPermutation}
use Rattle.std.proofs.lemmas.Bool.{cases_eq, cases_lt}
use Rattle.std.proofs.lemmas.List.{get_or-map, get_or_default, length-map}
use Rattle.std.proofs.lemmas.List.Edits.{get_or-remove_below, length-remove}
use Rattle.std.proofs.lemmas.List.Elements.{Contains-get_or}
use Rattle.std.proofs.lemmas.List.Sorted.{Contains-permutation, IsPermutation-remove, IsPermutation-sym, length_permutation, ranks_by, sorted_far}
use Rattle.interconnection.specs.Shape.{ShapeParts}
use Rattle.waitfor_check.specs.Fitting.{IsLower, Rise, ShapesDiffer}
use Rattle.waitfor_check.specs.Parts.{no_star}
use Rattle.waitfor_check.specs.declared.star.Star.{Star}
use Rattle.waitfor_check.specs.inside.ShapeKeys.{IsIndex, key_of, star_key}
use Rattle.waitfor_check.specs.inside.Walk.{AreSorted, Differ}
use Rattle.waitfor_check.proofs.Distinct.{Contains-cases, no_more}
use Rattle.waitfor_check.proofs.Visits.{same_shape}

-- where as many lists that differ are all among these, none of these stands twice
pub pairs_apart : (xs ys : List (List ℕ)) → Differ ys → ((y : List ℕ) → Contains ys y → Contains xs y) → length xs ≤ length ys → (i j : ℕ) → i < j → j < length xs → get_or xs i [] ≡ get_or xs j [] → ⊥
pairs_apart xs ys differ among size i j lt lt' same =
    let x : List ℕ = get_or xs j [] in
    let moved = IsPermutation-remove xs j (get_or xs j []) lt' (get_or_default xs j [] (get_or xs j []) lt') in
    omega (
      arith,
      size,
      length_permutation xs (get_or xs j [] ∷ remove xs j) moved,
      no_more ys (remove xs j) differ (λ y has. elim (Contains-cases (get_or xs j []) (remove xs j) y (Contains-permutation xs (get_or xs j [] ∷ remove xs j) y moved (among y has))) [
        | inl e ↦ (i, omega (arith, lt, lt', length-remove xs j lt'), get_or-remove_below xs j y i lt lt' ∙ get_or_default xs i y [] (omega (arith, lt, lt')) ∙ same ∙ e)
        | inr there ↦ there
      ]),
    )

lower_far : (keys : List (List ℕ)) → AreSorted keys → Rise keys → (i j : ℕ) → i < j → j < length keys → get_or keys i [] ≡ get_or keys j [] → ⊥
lower_far keys sorted rise i j lt lt' same =
    let next : slice_cmp nat_cmp (get_or keys i []) (get_or keys (i + 1) []) ≡ Less = rise i [] (omega (arith, lt, lt')) in
    let far : is_lt (slice_cmp nat_cmp (get_or keys j []) (get_or keys (i + 1) [])) ≡ false = sorted_far (λ (xs ys : List ℕ). is_lt (slice_cmp nat_cmp xs ys)) (ranks_by nat_list_cmp_total (λ (x : List ℕ). x)) keys sorted (i + 1) j [] (omega (arith, lt)) lt' in
    let low : is_lt (slice_cmp nat_cmp (get_or keys j []) (get_or keys (i + 1) [])) ≡ true = subst (λ (x : List ℕ). is_lt (slice_cmp nat_cmp x (get_or keys (i + 1) [])) ≡ true) same (rw next refl) in
    let never : true ≡ false = sym low ∙ far in
    cc

differ_from_apart : (keys : List (List ℕ)) → ((i j : ℕ) → i < j → j < length keys → get_or keys i [] ≡ get_or keys j [] → ⊥) → Differ keys
differ_from_apart [] apart = tt
differ_from_apart (x ∷ keys) apart = (
  λ has. apart 0 (suc has.0) (omega arith) (omega (arith, has.1)) (sym has.2 ∙ get_or_default keys has.0 x [] has.1),
  differ_from_apart keys (λ i j lt lt' same. apart (suc i) (suc j) (omega (arith, lt)) (omega (arith, lt')) same),
)

shape_at : (stars : List Star) (i : ℕ) → i < length stars → get_or (map star_key stars) i [] ≡ star_key (get_or stars i no_star)
shape_at stars i lt = get_or-map star_key stars i no_star [] lt

-- shapes differ where their keys do
shapes_apart : (stars : List Star) → ((i j : ℕ) → i < j → j < length (map star_key stars) → get_or (map star_key stars) i [] ≡ get_or (map star_key stars) j [] → ⊥) → ShapesDiffer stars
shapes_apart stars apart i j d lt lt' same =
    let size = length-map stars star_key in
    let left : get_or stars i d ≡ get_or stars i no_star = get_or_default stars i d no_star (omega (arith, lt, lt')) in
    let right : get_or stars j d ≡ get_or stars j no_star = get_or_default stars j d no_star lt' in
    let shapes : (get_or stars i no_star).shape ≡ (get_or stars j no_star).shape = ap {B = ShapeParts} (λ (s : Star). s.shape) (sym left) ∙ same ∙ ap {B = ShapeParts} (λ (s : Star). s.shape) right in
    apart i j lt (omega (arith, lt', size)) (shape_at stars i (omega (arith, lt, lt')) ∙ ap {B = List ℕ} key_of shapes ∙ sym (shape_at stars j lt'))

keys_apart : (stars : List Star) → ShapesDiffer stars → (i j : ℕ) → i < j → j < length (map star_key stars) → get_or (map star_key stars) i [] ≡ get_or (map star_key stars) j [] → ⊥
keys_apart stars differ i j lt lt' same =
    let size = length-map stars star_key in
    let in' : j < length stars = omega (arith, lt', size) in
    differ i j no_star lt in' (same_shape (get_or stars i no_star).shape (get_or stars j no_star).shape (sym (shape_at stars i (omega (arith, lt, in'))) ∙ same ∙ shape_at stars j in'))

-- keys that rise are those of shapes that differ
pub differ_from_rise : (stars : List Star) (keys : List (List ℕ)) → IsIndex stars keys → Rise keys → ShapesDiffer stars
differ_from_rise stars keys index rise = shapes_apart stars (pairs_apart (map star_key stars) keys (differ_from_apart keys (lower_far keys index.sorted rise)) (λ y has. Contains-permutation keys (map star_key stars) y (IsPermutation-sym (map star_key stars) keys index.same) has) (omega (arith, length_permutation (map star_key stars) keys index.same)))

-- and shapes that differ have keys that rise
pub rise_from_differ : (stars : List Star) (keys : List (List ℕ)) → IsIndex stars keys → ShapesDiffer stars → Rise keys
rise_from_differ stars keys index differ i d lt = by (slice_cmp nat_cmp (get_or keys i d) (get_or keys (i + 1) d)) refl
  where
    apart : (i j : ℕ) → i < j → j < length keys → get_or keys i [] ≡ get_or keys j [] → ⊥
    apart = pairs_apart keys (map star_key stars) (differ_from_apart (map star_key stars) (keys_apart stars differ)) (λ y has. Contains-permutation (map star_key stars) keys y index.same has) (omega (arith, length_permutation (map star_key stars) keys index.same))

    by : (o : Ordering) → slice_cmp nat_cmp (get_or keys i d) (get_or keys (i + 1) d) ≡ o → slice_cmp nat_cmp (get_or keys i d) (get_or keys (i + 1) d) ≡ Less
    by Less e = e
    by Equal e = absurd (apart i (i + 1) (omega arith) lt (sym (get_or_default keys i d [] (omega (arith, lt))) ∙ slice_cmp-IsAntisymmetric nat_cmp-IsAntisymmetric (get_or keys i d) (get_or keys (i + 1) d) e ∙ get_or_default keys (i + 1) d [] lt))
    by Greater e = (let back : slice_cmp nat_cmp (get_or keys (i + 1) d) (get_or keys i d) ≡ Less = nat_list_cmp_total.antisymm (get_or keys (i + 1) d) (get_or keys i d) ∙ ap ordering_reverse e in let never = sym (ap is_lt back) ∙ index.sorted i d (omega arith) lt in cc)
