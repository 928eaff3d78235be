-- Counts along lists, and lists in which no number stands more often than in another.
use Rattle.std.proofs.Common.{ℕ, zero, suc, ◌≡◌, ◌<◌, ◌≤◌, ◌+◌, ◌-◌, ◌==◌, ◌&&◌, Bool, true, false, cond, List, [], ◌∷◌, length, get_or, take, arith, inl, inr, refl, ap, subst, count_by, eq-eqb, ne_eqb, add-one, ltb, max}
use Rattle.std.proofs.lemmas.Bool.{cases_lt, cases_eq, lt-ltb, le-ltb}
use Rattle.std.proofs.lemmas.List.{take_all}
use Rattle.std.proofs.lemmas.List.Sums.{count_by_more_yes, count_by_more_no, sum_by-cons, sum_by-take-le}

abbrev pub as_one : Bool → ℕ
as_one b = cond b 1 0

pub count_next : {X : Type 0} (p : X → Bool) (x : X) (xs : List X) → count_by p (x ∷ xs) ≡ as_one (p x) + count_by p xs
count_next p x xs = sum_by-cons (λ x. cond (p x) 1 0) x xs

-- where all elements from place a up to b pass, at least so many pass
pub count_run : {X : Type 0} (p : X → Bool) (xs : List X) (a b : ℕ) (d : X) → b ≤ length xs → ((i : ℕ) → a ≤ i → i < b → p (get_or xs i d) ≡ true) → b ≤ a + count_by p (take b xs)
count_run p xs a zero d le each = omega arith
count_run p xs a (suc b) d le each = elim (cases_lt b a) [
  | inl lt ↦ omega (arith, lt)
  | inr ge ↦ (
      let here = rw add-one at (count_by_more_yes p xs b d (omega (arith, le)) (each b ge (omega arith))) in
      omega (arith, here, count_run p xs a b d (omega (arith, le)) (λ i al bl. each i al (omega (arith, bl)))))
]

pub count_run_all : {X : Type 0} (p : X → Bool) (xs : List X) (a b : ℕ) (d : X) → b ≤ length xs → ((i : ℕ) → a ≤ i → i < b → p (get_or xs i d) ≡ true) → b ≤ a + count_by p xs
count_run_all p xs a b d le each = omega (arith, count_run p xs a b d le each, sum_by-take-le (λ x. cond (p x) 1 0) xs b)

-- where elements from place a up to b alone pass, at most so many pass
count_window_to : {X : Type 0} (p : X → Bool) (xs : List X) (a b n : ℕ) (d : X) → a ≤ b → n ≤ length xs → ((i : ℕ) → i < length xs → p (get_or xs i d) ≡ true → (a ≤ i) × (i < b))
    → (count_by p (take n xs) ≤ n - a) × (count_by p (take n xs) ≤ b - a)
count_window_to p xs a b zero d le in' only = (omega arith, omega arith)
count_window_to {X} p xs a b (suc n) d le in' only = by (p (get_or xs n d)) refl (count_window_to p xs a b n d le (omega (arith, in')) only)
  where
    by : (t : Bool) → p (get_or xs n d) ≡ t → (count_by p (take n xs) ≤ n - a) × (count_by p (take n xs) ≤ b - a) → (count_by p (take (suc n) xs) ≤ suc n - a) × (count_by p (take (suc n) xs) ≤ b - a)
    by true e ih =
        let here = rw add-one at (count_by_more_yes p xs n d (omega (arith, in')) e) in
        let lies = only n (omega (arith, in')) e in
        (omega (arith, here, ih.0, ih.1, lies.0, lies.1), omega (arith, here, ih.0, ih.1, lies.0, lies.1))
    by false e ih =
        let here = rw add-one at (count_by_more_no p xs n d (omega (arith, in')) e) in
        (omega (arith, here, ih.0, ih.1), omega (arith, here, ih.0, ih.1))

pub count_window : {X : Type 0} (p : X → Bool) (xs : List X) (a b : ℕ) (d : X) → a ≤ b → ((i : ℕ) → i < length xs → p (get_or xs i d) ≡ true → (a ≤ i) × (i < b)) → count_by p xs ≤ b - a
count_window p xs a b d le only =
    let all : take (length xs) xs ≡ xs = take_all (length xs) xs (omega arith) in
    subst (λ ys. count_by p ys ≤ b - a) all (count_window_to p xs a b (length xs) d le (omega arith) only).1

-- no element passes
pub count_none : {X : Type 0} (p : X → Bool) (xs : List X) (d : X) → ((i : ℕ) → i < length xs → p (get_or xs i d) ≡ false) → count_by p xs ≡ 0
count_none p xs d none = omega (arith, count_window p xs 0 0 d (omega arith) (λ i lt passes. absurd (no i lt passes)))
  where
    no : (i : ℕ) → i < length xs → p (get_or xs i d) ≡ true → ⊥
    no i lt passes = let f = none i lt in cc

-- in both lists the number r of the elements: none stands more often in the first
abbrev pub IsWithin : {X : Type 0} → (X → ℕ) → List X → List X → Type 0
IsWithin r xs ys = (c : ℕ) → count_by (λ x. r x == c) xs ≤ count_by (λ x. r x == c) ys

abbrev pub below_and : {X : Type 0} → (X → ℕ) → (ℕ → Bool) → ℕ → X → Bool
below_and r q n x = ltb (r x) n && q (r x)

-- one number more
one_more : (q : ℕ → Bool) (m n : ℕ) → as_one (ltb m (suc n) && q m) ≡ as_one (ltb m n && q m) + cond (q n) (as_one (m == n)) 0
one_more q m n = elim (cases_eq m n) [ inl same ↦ at same | inr differ ↦ elim (cases_lt m n) [ inl lt ↦ low lt differ | inr ge ↦ high ge differ ] ]
  where
    at : m ≡ n → as_one (ltb m (suc n) && q m) ≡ as_one (ltb m n && q m) + cond (q n) (as_one (m == n)) 0
    at same = rw (lt-ltb m (suc n) (omega (arith, same)), le-ltb m n (omega (arith, same)), eq-eqb m n same, same) (omega arith)

    low : m < n → (m ≡ n → ⊥) → as_one (ltb m (suc n) && q m) ≡ as_one (ltb m n && q m) + cond (q n) (as_one (m == n)) 0
    low lt differ = rw (lt-ltb m (suc n) (omega (arith, lt)), lt-ltb m n lt, ne_eqb m n differ) (zero_cond (q n) (as_one (q m)))
      where
        zero_cond : (b : Bool) (x : ℕ) → x ≡ x + cond b 0 0
        zero_cond true x = omega arith
        zero_cond false x = omega arith

    high : n ≤ m → (m ≡ n → ⊥) → as_one (ltb m (suc n) && q m) ≡ as_one (ltb m n && q m) + cond (q n) (as_one (m == n)) 0
    high ge differ = rw (le-ltb m (suc n) (omega (arith, ge, differ)), le-ltb m n ge, ne_eqb m n differ) (zeros (q n))
      where
        zeros : (b : Bool) → 0 ≡ 0 + cond b 0 0
        zeros true = refl
        zeros false = refl

count_one_more : {X : Type 0} (r : X → ℕ) (q : ℕ → Bool) (n : ℕ) (xs : List X) → count_by (below_and r q (suc n)) xs ≡ count_by (below_and r q n) xs + cond (q n) (count_by (λ x. r x == n) xs) 0
count_one_more r q n [] = nothing (q n)
  where
    nothing : (b : Bool) → 0 ≡ 0 + cond b 0 0
    nothing true = refl
    nothing false = refl
count_one_more r q n (x ∷ xs) = by (q n) refl (count_one_more r q n xs)
  where
    by : (b : Bool) → q n ≡ b → count_by (below_and r q (suc n)) xs ≡ count_by (below_and r q n) xs + cond (q n) (count_by (λ x. r x == n) xs) 0
        → count_by (below_and r q (suc n)) (x ∷ xs) ≡ count_by (below_and r q n) (x ∷ xs) + cond (q n) (count_by (λ x. r x == n) (x ∷ xs)) 0
    by true e more =
        let head = rw e at (one_more q (r x) n) in
        let tail = rw e at more in
        rw e (omega (arith, head, tail, count_next (below_and r q (suc n)) x xs, count_next (below_and r q n) x xs, count_next (λ x. r x == n) x xs))
    by false e more =
        let head = rw e at (one_more q (r x) n) in
        let tail = rw e at more in
        rw e (omega (arith, head, tail, count_next (below_and r q (suc n)) x xs, count_next (below_and r q n) x xs))

nothing_below : {X : Type 0} (r : X → ℕ) (q : ℕ → Bool) (xs : List X) → count_by (below_and r q 0) xs ≡ 0
nothing_below r q [] = refl
nothing_below r q (x ∷ xs) = omega (arith, count_next (below_and r q 0) x xs, nothing_below r q xs, ap {B = ℕ} (λ b. as_one (b && q (r x))) (le-ltb (r x) 0 (omega arith)))

count_below : {X : Type 0} (r : X → ℕ) (q : ℕ → Bool) (n : ℕ) (xs ys : List X) → IsWithin r xs ys → count_by (below_and r q n) xs ≤ count_by (below_and r q n) ys
count_below r q zero xs ys within = omega (arith, nothing_below r q xs)
count_below r q (suc n) xs ys within = by (q n) refl (count_below r q n xs ys within)
  where
    by : (b : Bool) → q n ≡ b → count_by (below_and r q n) xs ≤ count_by (below_and r q n) ys → count_by (below_and r q (suc n)) xs ≤ count_by (below_and r q (suc n)) ys
    by true e less = omega (arith, rw e at (count_one_more r q n xs), rw e at (count_one_more r q n ys), less, within n)
    by false e less = omega (arith, rw e at (count_one_more r q n xs), rw e at (count_one_more r q n ys), less)

-- a number above all
abbrev pub ceiling : {X : Type 0} → (X → ℕ) → List X → ℕ
ceiling r [] = 0
ceiling r (x ∷ xs) = max (suc (r x)) (ceiling r xs)

count_ceiling : {X : Type 0} (r : X → ℕ) (q : ℕ → Bool) (n : ℕ) (xs : List X) → ceiling r xs ≤ n → count_by (below_and r q n) xs ≡ count_by (λ x. q (r x)) xs
count_ceiling r q n [] le = refl
count_ceiling r q n (x ∷ xs) le =
    let low : ltb (r x) n ≡ true = lt-ltb (r x) n (omega (arith, le)) in
    omega (arith, count_next (below_and r q n) x xs, count_next (λ x. q (r x)) x xs, count_ceiling r q n xs (omega (arith, le)), ap {B = ℕ} (λ b. as_one (b && q (r x))) low)

-- so no test on numbers passes more elements of the first
pub count_within : {X : Type 0} (r : X → ℕ) (q : ℕ → Bool) (xs ys : List X) → IsWithin r xs ys → count_by (λ x. q (r x)) xs ≤ count_by (λ x. q (r x)) ys
count_within r q xs ys within =
    let n : ℕ = max (ceiling r xs) (ceiling r ys) in
    omega (arith, count_below r q n xs ys within, count_ceiling r q n xs (omega arith), count_ceiling r q n ys (omega arith))
