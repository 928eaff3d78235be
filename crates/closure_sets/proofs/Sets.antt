-- Rows as sets, and what stands among rows.
use Rattle.std.proofs.Common.{ℕ, zero, suc, ◌≡◌, ◌⊎◌, ◌<◌, ◌≤◌, inl, inr, Bool, true, false, ◌&&◌, not, Option, Some, None, List, [], ◌∷◌, ◌++◌, eqb, eq-eqb, eqb-true, arith, refl, subst, sym}
use Rattle.std.proofs.lemmas.Bool.{or_cases, or_left, or_right}
use Rattle.std.proofs.Math.Decide.{dec_lt, ℕ_discrete}
use Rattle.std.specs.Prelude.{if◌then◌else◌}
use Rattle.closure_sets.specs.Expansion.{lowest, or_last, rows_of}
use Rattle.closure_sets.specs.Full.{Among}
use Rattle.closure_sets.specs.Row.{Members, add}

abbrev pub one_more : Bool → ℕ → ℕ
one_more true k = k
one_more false k = suc k

-- how many members below n are not treated
abbrev pub untreated : ℕ → Members → ℕ
untreated zero treated = 0
untreated (suc n) treated = one_more (treated n) (untreated n treated)

pub both_false : (a b : Bool) → a && not b ≡ false → a ≡ true → b ≡ true
both_false true true e f = refl
both_false true false e f = absurd (let g : true ≡ false = e in cc)
both_false false b e f = absurd (let g : false ≡ true = f in cc)

pub add_keeps : (row : Members) (m i : ℕ) → row i ≡ true → add row m i ≡ true
add_keeps row m i e = or_right (eqb i m) (row i) e

pub add_same : (row : Members) (m : ℕ) → add row m m ≡ true
add_same row m = or_left (eqb m m) (row m) (eq-eqb m m refl)

pub add_back : (row : Members) (m i : ℕ) → add row m i ≡ true → (i ≡ m) ⊎ (row i ≡ true)
add_back row m i e = elim (or_cases (eqb i m) (row i) e) [ inl f ↦ inl (eqb-true i m f) | inr f ↦ inr f ]

pub if_cases : (Z : List Members → Type 0) (b : Bool) (xs ys : List Members) → (b ≡ true → Z xs) → (b ≡ false → Z ys) → Z (if b then xs else ys)
if_cases Z true xs ys f g = f refl
if_cases Z false xs ys f g = g refl

pub among_map : (X Y : Members → Type 0) (rs : List Members) → ((r : Members) → X r → Y r) → Among X rs → Among Y rs
among_map X Y [] f h = h
among_map X Y (r ∷ rs) f (inl x) = inl (f r x)
among_map X Y (r ∷ rs) f (inr h) = inr (among_map X Y rs f h)

among_left : (X : Members → Type 0) (rs qs : List Members) → Among X rs → Among X (rs ++ qs)
among_left X [] qs h = absurd h
among_left X (r ∷ rs) qs (inl x) = inl x
among_left X (r ∷ rs) qs (inr h) = inr (among_left X rs qs h)

among_right : (X : Members → Type 0) (rs qs : List Members) → Among X qs → Among X (rs ++ qs)
among_right X [] qs h = h
among_right X (r ∷ rs) qs h = inr (among_right X rs qs h)

pub among_of : (X : Members → Type 0) (f : Members → List Members) (rs : List Members) → Among (λ r. Among X (f r)) rs → Among X (rows_of f rs)
among_of X f [] h = h
among_of X f (r ∷ rs) (inl x) = among_left X (f r) (rows_of f rs) x
among_of X f (r ∷ rs) (inr h) = among_right X (f r) (rows_of f rs) (among_of X f rs h)

-- what the lowest is
abbrev pub IsLowest : ℕ → (ℕ → Bool) → Option ℕ → Type 0
IsLowest n p None = (i : ℕ) → i < n → p i ≡ false
IsLowest n p (Some m) = (m < n) × (p m ≡ true)

lowest_step : (n : ℕ) (p : ℕ → Bool) (o : Option ℕ) (b : Bool) → p n ≡ b → IsLowest n p o → IsLowest (suc n) p (or_last o n b)
lowest_step n p (Some m) b e h = (omega (arith, h.0), h.1)
lowest_step n p None true e h = (omega arith, e)
lowest_step n p None false e h = λ i lt. elim (dec_lt i n) [ yes l ↦ h i l | no g ↦ let q : n ≡ i = omega (arith, g) in subst (λ k. p k ≡ false) q e ]

pub lowest_is : (n : ℕ) (p : ℕ → Bool) → IsLowest n p (lowest n p)
lowest_is zero p = λ i lt. absurd (omega (arith, lt))
lowest_is (suc n) p = lowest_step n p (lowest n p) (p n) refl (lowest_is n p)

one_more_le : (a b : Bool) (k l : ℕ) → (a ≡ true → b ≡ true) → l ≤ k → one_more b l ≤ one_more a k
one_more_le true true k l f le = le
one_more_le true false k l f le = absurd (let e : false ≡ true = f refl in cc)
one_more_le false true k l f le = omega arith
one_more_le false false k l f le = omega arith

untreated_le : (n : ℕ) (treated : Members) (m : ℕ) → untreated n (add treated m) ≤ untreated n treated
untreated_le zero treated m = omega arith
untreated_le (suc n) treated m = one_more_le (treated n) (add treated m n) (untreated n treated) (untreated n (add treated m)) (add_keeps treated m n) (untreated_le n treated m)

-- a member that is now treated
pub untreated_less : (n : ℕ) (treated : Members) (m : ℕ) → m < n → treated m ≡ false → untreated n (add treated m) < untreated n treated
untreated_less zero treated m lt e = absurd (omega (arith, lt))
untreated_less (suc n) treated m lt e = elim (ℕ_discrete m n) [ yes q ↦ here q | no ne ↦ one_more_lt (treated n) (add treated m n) (untreated n treated) (untreated n (add treated m)) (add_keeps treated m n) (untreated_less n treated m (omega (arith, ne)) e) ]
  where
    one_more_lt : (a b : Bool) (k l : ℕ) → (a ≡ true → b ≡ true) → l < k → one_more b l < one_more a k
    one_more_lt true true k l f le = le
    one_more_lt true false k l f le = absurd (let e : false ≡ true = f refl in cc)
    one_more_lt false true k l f le = omega arith
    one_more_lt false false k l f le = omega arith

    here : m ≡ n → one_more (add treated m n) (untreated n (add treated m)) < one_more (treated n) (untreated n treated)
    here q = let now : add treated m n ≡ true = subst (λ k. add treated m k ≡ true) q (add_same treated m) in let was : treated n ≡ false = subst (λ k. treated k ≡ false) q e in rw (now, was) (let le : untreated n (add treated m) ≤ untreated n treated = untreated_le n treated m in omega arith)

-- where none is counted, all are treated
pub all_treated : (n : ℕ) (treated : Members) → untreated n treated ≤ 0 → (i : ℕ) → i < n → treated i ≡ true
all_treated zero treated le i lt = absurd (omega (arith, lt))
all_treated (suc n) treated le i lt = last (treated n) refl le (λ l. all_treated n treated l i)
  where
    last : (b : Bool) → treated n ≡ b → one_more b (untreated n treated) ≤ 0 → (untreated n treated ≤ 0 → i < n → treated i ≡ true) → treated i ≡ true
    last false e l below = absurd (omega (arith, l))
    last true e l below = elim (ℕ_discrete i n) [ yes q ↦ subst (λ k. treated k ≡ true) (sym q) e | no ne ↦ below l (omega (arith, ne)) ]

pub untreated_all : (n : ℕ) (treated : Members) → untreated n treated ≤ n
untreated_all zero treated = omega arith
untreated_all (suc n) treated = at_most (treated n) (untreated n treated) (untreated_all n treated)
  where
    at_most : (b : Bool) (k : ℕ) → k ≤ n → one_more b k ≤ suc n
    at_most true k le = omega arith
    at_most false k le = omega arith
