-- How the lowest number that passes a test is found.
use Rattle.std.proofs.Common.{ℕ, zero, suc, ◌≡◌, ◌<◌, Bool, true, false, Option, Some, None, refl, subst, sym, arith}
use Rattle.std.proofs.Math.Decide.{dec_lt}
use Rattle.closure_sets.specs.Expansion.{lowest}
use Rattle.closure_sets.proofs.Sets.{IsLowest, lowest_is}

pub lowest_none : (n : ℕ) (p : ℕ → Bool) → ((i : ℕ) → i < n → p i ≡ false) → lowest n p ≡ None
lowest_none zero p h = refl
lowest_none (suc n) p h = rw (lowest_none n p (λ i lt. h i (omega (arith, lt))), h n (omega arith)) refl

pub lowest_found : (n : ℕ) (p : ℕ → Bool) (k : ℕ) → k < n → p k ≡ true → ((i : ℕ) → i < k → p i ≡ false) → lowest n p ≡ Some k
lowest_found zero p k lt e h = absurd (omega (arith, lt))
lowest_found (suc n) p k lt e h = elim (dec_lt k n) [ yes l ↦ rw (lowest_found n p k l e h) refl | no g ↦ (let q : k ≡ n = omega (arith, g, lt) in last q) ]
  where
    last : k ≡ n → lowest (suc n) p ≡ Some k
    last q = let now : p n ≡ true = subst (λ j. p j ≡ true) q e in rw (lowest_none n p (λ i l. h i (omega (arith, l, q))), now) (let r : n ≡ k = sym q in subst (λ j. ◌≡◌ {A = Option ℕ} (Some n) (Some j)) r refl)

-- the same test
pub lowest_same : (n : ℕ) (p q : ℕ → Bool) → ((i : ℕ) → i < n → p i ≡ q i) → lowest n p ≡ lowest n q
lowest_same zero p q h = refl
lowest_same (suc n) p q h = rw (lowest_same n p q (λ i lt. h i (omega (arith, lt))), h n (omega arith)) refl

pub lowest_lt : (n : ℕ) (p : ℕ → Bool) (m : ℕ) → lowest n p ≡ Some m → m < n
lowest_lt n p m e = (subst (IsLowest n p) e (lowest_is n p)).0
