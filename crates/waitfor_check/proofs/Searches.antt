-- What a binary search among members says.
use Rattle.std.proofs.Common.{ℕ, ◌≡◌, ◌<◌, ◌≤◌, ◌+◌, ◌↔◌, [], ap, ◌∙◌, IsTrue, Result, Ok, Err, List, length, get_or, arith, refl, sym, ◌∙◌, subst, Contains, inl, inr}
use Rattle.std.specs.Prelude.{is_ok}
use Rattle.std.specs.Cmp.Lexicographic.{slice_cmp, nat_list_cmp_total}
use Rattle.std.specs.FinMap.{slice_cmp-IsAntisymmetric, nat_cmp-IsAntisymmetric}
use Rattle.std.specs.List.Sorted.{IsBinarySearchResult}
use Rattle.std.specs.Ordering.{nat_cmp, ordering_index, ordering_reverse}
use Rattle.std.specs.declared.cmp.Ordering.TheVariants.{Less, Equal, Greater}
use Rattle.std.specs.declared.cmp.Ordering.{Ordering}
use Rattle.std.proofs.lemmas.List.{get_or_default}
use Rattle.std.proofs.lemmas.Bool.{cases_lt}
use Rattle.std.proofs.lemmas.List.Sorted.{searchable_from_sorted}
use Rattle.waitfor_check.specs.inside.Walk.{AreSorted}

not_less : (xs : List ℕ) → slice_cmp nat_cmp xs xs ≡ Less → ⊥
not_less xs h = let both : Less ≡ ordering_reverse Less = sym h ∙ nat_list_cmp_total.antisymm xs xs ∙ rw h refl in cc

not_greater : (xs : List ℕ) → slice_cmp nat_cmp xs xs ≡ Greater → ⊥
not_greater xs h = let both : Greater ≡ ordering_reverse Greater = sym h ∙ nat_list_cmp_total.antisymm xs xs ∙ rw h refl in cc

-- it finds a member exactly where there is one
pub search_decides : (members : List (List ℕ)) (states : List ℕ) (r : Result ℕ ℕ) → AreSorted members → ((i : ℕ) → r ≡ Ok i → i < length members) → IsBinarySearchResult (λ y. slice_cmp nat_cmp y states) members r → IsTrue (is_ok r) ↔ Contains members states
search_decides members states (Ok i) sorted bound found = (λ ok. (i, bound i refl, slice_cmp-IsAntisymmetric nat_cmp-IsAntisymmetric (get_or members i states) states (found states)), λ has. refl)
search_decides members states (Err i) sorted bound found = (λ never. cc, λ has. absurd (none has))
  where
    none : Contains members states → ⊥
    none (k, lt, is) = elim (cases_lt k i) [
      | inl before ↦ not_less states (subst (λ y. slice_cmp nat_cmp y states ≡ Less) is ((found (searchable_from_sorted nat_list_cmp_total (λ (y : List ℕ). y) members states sorted)).0 k states (omega arith) before))
      | inr after ↦ not_greater states (subst (λ y. slice_cmp nat_cmp y states ≡ Greater) is ((found (searchable_from_sorted nat_list_cmp_total (λ (y : List ℕ). y) members states sorted)).1 k states after lt))
    ]

-- the members before low come before these states, those from high on come after them
pub record IsNarrowed (members : List (List ℕ)) (states : List ℕ) (low high : ℕ) : Type 0 where
  pub order : low ≤ high
  pub within : high ≤ length members
  pub below : (i : ℕ) → i < low → slice_cmp nat_cmp (get_or members i []) states ≡ Less
  pub above : (i : ℕ) → high ≤ i → i < length members → slice_cmp nat_cmp (get_or members i []) states ≡ Greater

order_at : (members : List (List ℕ)) (states : List ℕ) → AreSorted members → (i j : ℕ) → i ≤ j → j < length members → ordering_index (slice_cmp nat_cmp (get_or members i []) states) ≤ ordering_index (slice_cmp nat_cmp (get_or members j []) states)
order_at members states sorted i j le lt = searchable_from_sorted nat_list_cmp_total (λ (y : List ℕ). y) members states sorted i j [] le lt

least : (x y : Ordering) → ordering_index x ≤ ordering_index y → y ≡ Less → x ≡ Less
least Less y le is = refl
least Equal y le is = absurd (omega (arith, le, ap {B = ℕ} ordering_index is))
least Greater y le is = absurd (omega (arith, le, ap {B = ℕ} ordering_index is))

greatest : (x y : Ordering) → ordering_index x ≤ ordering_index y → x ≡ Greater → y ≡ Greater
greatest x Greater le is = refl
greatest x Equal le is = absurd (omega (arith, le, ap {B = ℕ} ordering_index is))
greatest x Less le is = absurd (omega (arith, le, ap {B = ℕ} ordering_index is))

pub narrowed_low : (members : List (List ℕ)) (states : List ℕ) (low middle high : ℕ) → AreSorted members → IsNarrowed members states low high → middle < high → slice_cmp nat_cmp (get_or members middle []) states ≡ Less → IsNarrowed members states (middle + 1) high
narrowed_low members states low middle high sorted narrow lt less = record {
  order = omega (arith, lt);
  within = narrow.within;
  below = λ i before. least _ _ (order_at members states sorted i middle (omega (arith, before)) (omega (arith, lt, narrow.within))) less;
  above = narrow.above;
}

pub narrowed_high : (members : List (List ℕ)) (states : List ℕ) (low middle high : ℕ) → AreSorted members → IsNarrowed members states low high → low ≤ middle → middle < high → slice_cmp nat_cmp (get_or members middle []) states ≡ Greater → IsNarrowed members states low middle
narrowed_high members states low middle high sorted narrow le lt greater = record {
  order = le;
  within = omega (arith, lt, narrow.within);
  below = narrow.below;
  above = λ i from lt'. greatest _ _ (order_at members states sorted middle i from lt') greater;
}

pub narrowed_none : (members : List (List ℕ)) (states : List ℕ) (low high : ℕ) → IsNarrowed members states low high → high ≤ low → Contains members states → ⊥
narrowed_none members states low high narrow met (k, lt, is) = elim (cases_lt k low) [
  | inl before ↦ not_less states (subst (λ y. slice_cmp nat_cmp y states ≡ Less) at (narrow.below k before))
  | inr after ↦ not_greater states (subst (λ y. slice_cmp nat_cmp y states ≡ Greater) at (narrow.above k (omega (arith, after, met)) lt))
]
  where
    at : get_or members k [] ≡ states
    at = get_or_default members k [] states lt ∙ is

pub found_at : (members : List (List ℕ)) (states : List ℕ) (i : ℕ) → i < length members → slice_cmp nat_cmp (get_or members i []) states ≡ Equal → Contains members states
found_at members states i lt equal = (i, lt, get_or_default members i states [] lt ∙ slice_cmp-IsAntisymmetric nat_cmp-IsAntisymmetric (get_or members i []) states equal)
