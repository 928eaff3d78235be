-- Lists that rise by a number of their elements.
use Rattle.std.proofs.Common.{ℕ, zero, suc, ◌≡◌, ◌<◌, ◌≤◌, ◌+◌, ◌-◌, ◌⊎◌, ◌↔◌, ◌∷◌, [], List, length, get_or, insert, AllPairs, All, Contains, count_by, cond, ◌==◌, true, false, arith, inl, inr, refl, sym, ◌∙◌, ap, subst, eq-eqb, ne_eqb}
use Rattle.std.specs.List.Sorted.{IsNonDecreasingBy, IsPartitionPoint}
use Rattle.std.proofs.lemmas.Bool.{cases_lt, cases_order}
use Rattle.std.proofs.lemmas.List.Edits.{length-insert, get_or-insert_below, get_or-insert_at, get_or-insert_above}
use Rattle.std.proofs.lemmas.List.Sorted.{IsPermutation-insert, IsPermutation-sym, Contains-permutation}
use Rattle.std.proofs.lemmas.List.Sums.{sum_by-cons}

abbrev pub RisesBy : {X : Type 0} → (X → ℕ) → List X → Type 0
RisesBy n xs = AllPairs (λ x y. n x < n y) xs

pub IsNonDecreasingBy-from_rising : {X : Type 0} (n : X → ℕ) (xs : List X) → RisesBy n xs → IsNonDecreasingBy n xs
IsNonDecreasingBy-from_rising n xs rising i j d le lt =
    elim (cases_lt i j) [
      | inl before ↦ omega (arith, rising i j d before lt)
      | inr after ↦ (let same : i ≡ j = omega arith in omega (arith, ap (λ k. n (get_or xs k d)) same))
    ]

-- an element after an insert is one of before, at its place or the one before it, or the new one
place_after_insert : {X : Type 0} (xs : List X) (i : ℕ) (y d : X) (q : ℕ) → i ≤ length xs
    → ((q < i) × (get_or (insert xs i y) q d ≡ get_or xs q d)) ⊎ (((q ≡ i) × (get_or (insert xs i y) q d ≡ y)) ⊎ ((k : ℕ) × (q ≡ k + 1) × (i ≤ k) × (get_or (insert xs i y) q d ≡ get_or xs k d)))
place_after_insert xs i y d q le =
    elim (cases_order q i) [
      | inl same ↦ inr (inl (same, ap (λ q. get_or (insert xs i y) q d) same ∙ get_or-insert_at xs i y d le))
      | inr apart ↦ elim apart [
        | inl below ↦ inl (below, get_or-insert_below xs i y d q below le)
        | inr above ↦ inr (inr (q - 1, omega arith, omega arith, ap (λ q. get_or (insert xs i y) q d) (later above) ∙ get_or-insert_above xs i y d (q - 1) (omega arith) le))
      ]
    ]
  where
    later : i < q → q ≡ (q - 1) + 1
    later above = omega arith

-- an insert between what is lower and what is higher
pub RisesBy-insert : {X : Type 0} (n : X → ℕ) (xs : List X) (i : ℕ) (y : X) → RisesBy n xs → i ≤ length xs
    → ((k : ℕ) (d : X) → k < i → n (get_or xs k d) < n y) → ((k : ℕ) (d : X) → i ≤ k → k < length xs → n y < n (get_or xs k d)) → RisesBy n (insert xs i y)
RisesBy-insert {X} n xs i y rising le below above p q d lt within =
    elim (place_after_insert xs i y d p le) [
      | inl (pb, pe) ↦ elim (place_after_insert xs i y d q le) [
        | inl (qb, qe) ↦ by pe qe (rising p q d lt (omega arith))
        | inr rest ↦ elim rest [
          | inl (qi, qe) ↦ by pe qe (below p d pb)
          | inr (k, qk, ik, qe) ↦ by pe qe (rising p k d (omega arith) (short k qk))
        ]
      ]
      | inr rest ↦ elim rest [
        | inl (pi, pe) ↦ elim (place_after_insert xs i y d q le) [
          | inl (qb, qe) ↦ absurd (omega arith)
          | inr rest ↦ elim rest [
            | inl (qi, qe) ↦ absurd (omega arith)
            | inr (k, qk, ik, qe) ↦ by pe qe (above k d ik (short k qk))
          ]
        ]
        | inr (j, pj, ij, pe) ↦ elim (place_after_insert xs i y d q le) [
          | inl (qb, qe) ↦ absurd (omega arith)
          | inr rest ↦ elim rest [
            | inl (qi, qe) ↦ absurd (omega arith)
            | inr (k, qk, ik, qe) ↦ by pe qe (rising j k d (omega arith) (short k qk))
          ]
        ]
      ]
    ]
  where
    by : {u v : X} → get_or (insert xs i y) p d ≡ u → get_or (insert xs i y) q d ≡ v → n u < n v → n (get_or (insert xs i y) p d) < n (get_or (insert xs i y) q d)
    by pe qe less = omega (arith, ap n pe, ap n qe)

    short : (k : ℕ) → q ≡ k + 1 → k < length xs
    short k is = omega (arith, length-insert xs i y le)

first_or_later : {X : Type 0} (y x : X) (xs : List X) → Contains (y ∷ xs) x → (x ≡ y) ⊎ Contains xs x
first_or_later y x xs (zero, lt, is) = inl (sym is)
first_or_later y x xs (suc k, lt, is) = inr (k, omega (arith, lt), is)

later_too : {X : Type 0} (y x : X) (xs : List X) → (x ≡ y) ⊎ Contains xs x → Contains (y ∷ xs) x
later_too y x xs (inl is) = (0, omega arith, sym is)
later_too y x xs (inr (k, lt, is)) = (suc k, omega (arith, lt), is)

-- an insert adds the new element, and no other
pub Contains-insert : {X : Type 0} (xs : List X) (i : ℕ) (y x : X) → Contains (insert xs i y) x ↔ (x ≡ y) ⊎ Contains xs x
Contains-insert xs i y x =
    let moved = IsPermutation-insert xs i y in (
      λ has. first_or_later y x xs (Contains-permutation (insert xs i y) (y ∷ xs) x (IsPermutation-sym (y ∷ xs) (insert xs i y) moved) has),
      λ is. Contains-permutation (y ∷ xs) (insert xs i y) x moved (later_too y x xs is),
    )

-- in a list that rises, an element of a number stands at the number's place
pub stands_at_its_place : {X : Type 0} (n : X → ℕ) (xs : List X) (i v : ℕ) (x : X) → RisesBy n xs → IsPartitionPoint (λ y. n y < v) (λ y. v ≤ n y) xs i → Contains xs x → n x ≡ v → (i < length xs) × (get_or xs i x ≡ x)
stands_at_its_place n xs i v x rising point (k, lt, is) same =
    elim (cases_order i k) [
      | inl here ↦ (omega arith, ap (λ k. get_or xs k x) here ∙ is)
      | inr apart ↦ elim apart [
        | inl below ↦ absurd (omega (arith, same, ap n is, rising i k x below lt, point.1 i x (omega arith) (omega arith)))
        | inr above ↦ absurd (omega (arith, same, ap n is, point.0 k x (omega arith) above))
      ]
    ]

count_cons : (k x : ℕ) (xs : List ℕ) → count_by (λ j. j == k) (x ∷ xs) ≡ cond (x == k) 1 0 + count_by (λ j. j == k) xs
count_cons k x xs = sum_by-cons (λ j. cond (j == k) 1 0) x xs

none_above : (k : ℕ) (xs : List ℕ) → All (λ x. k < x) xs → count_by (λ j. j == k) xs ≡ 0
none_above k [] above = refl
none_above k (x ∷ xs) above =
    let higher : k < x = above 0 0 (omega arith) in
    let other : (x == k) ≡ false = ne_eqb x k (omega arith) in
    let rest : count_by (λ j. j == k) xs ≡ 0 = none_above k xs (λ i d lt. above (suc i) d (omega (arith, lt))) in
    count_cons k x xs ∙ omega (arith, ap {B = ℕ} (λ b. cond b 1 0) other, rest)

-- in numbers that rise, one that is there stands once
pub rising_counts_once : (k : ℕ) (xs : List ℕ) → AllPairs (λ x y. x < y) xs → Contains xs k → count_by (λ j. j == k) xs ≡ 1
rising_counts_once k [] rising (i, lt, is) = absurd (omega (arith, lt))
rising_counts_once k (x ∷ xs) rising (zero, lt, is) =
    let same : (x == k) ≡ true = eq-eqb x k is in
    let rest : count_by (λ j. j == k) xs ≡ 0 = none_above k xs (λ i d within. subst (λ k. k < get_or xs i d) is (rising 0 (suc i) d (omega arith) (omega (arith, within)))) in
    count_cons k x xs ∙ omega (arith, ap {B = ℕ} (λ b. cond b 1 0) same, rest)
rising_counts_once k (x ∷ xs) rising (suc i, lt, is) =
    let lower : x < get_or xs i k = rising 0 (suc i) k (omega arith) lt in
    let other : (x == k) ≡ false = ne_eqb x k (omega (arith, is)) in
    let rest : count_by (λ j. j == k) xs ≡ 1 = rising_counts_once k xs (λ p q d before within. rising (suc p) (suc q) d (omega arith) (omega (arith, within))) (i, omega (arith, lt), is) in
    count_cons k x xs ∙ omega (arith, ap {B = ℕ} (λ b. cond b 1 0) other, rest)
