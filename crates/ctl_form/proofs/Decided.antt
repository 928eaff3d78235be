-- Facts that are decided: closed under the connectives, under 'some number below a bound', and under what a relation within bounds leads to.
use Rattle.std.proofs.Common.{ℕ, zero, suc, ◌⊎◌, ◌<◌, inl, inr, arith, subst}
use Rattle.std.proofs.Math.Decide.{dec_lt}

-- a fact, or its refutation
abbrev pub Decided : Type 0 → Type 0
Decided X = X ⊎ (X → ⊥)

pub decided_of : {X : Type 0} → Dec X → Decided X
decided_of d = elim d [ yes x ↦ inl x | no n ↦ inr n ]

pub decided_not : {X : Type 0} → Decided X → Decided (X → ⊥)
decided_not d = elim d [ inl x ↦ inr (λ n. n x) | inr n ↦ inl n ]

pub decided_either : {X Y : Type 0} → Decided X → Decided Y → Decided (X ⊎ Y)
decided_either (inl x) e = inl (inl x)
decided_either (inr n) (inl y) = inl (inr y)
decided_either (inr n) (inr k) = inr (λ u. elim u [ inl x ↦ n x | inr y ↦ k y ])

pub decided_both : {X Y : Type 0} → Decided X → Decided Y → Decided (X × Y)
decided_both (inr n) e = inr (λ u. n u.0)
decided_both (inl x) (inr k) = inr (λ u. k u.1)
decided_both (inl x) (inl y) = inl (x, y)

pub decided_implies : {X Y : Type 0} → Decided X → Decided Y → Decided (X → Y)
decided_implies (inr n) e = inl (λ x. absurd (n x))
decided_implies (inl x) (inr k) = inr (λ u. k (u x))
decided_implies (inl x) (inl y) = inl (λ _. y)

pub decided_iff : {X Y : Type 0} → (X → Y) → (Y → X) → Decided X → Decided Y
decided_iff f g (inl x) = inl (f x)
decided_iff f g (inr n) = inr (λ y. n (g y))

-- what is not refuted holds
pub decided_stands : (X Y : Type 0) → Decided X → ((X → ⊥) → Y → ⊥) → Y → X
decided_stands X Y (inl x) f y = x
decided_stands X Y (inr n) f y = absurd (f n y)

-- some number below n has the property
pub decided_below : (X : ℕ → Type 0) (n : ℕ) → ((k : ℕ) → k < n → Decided (X k)) → Decided ((k : ℕ) × (k < n) × X k)
decided_below X zero d = inr (λ u. absurd (omega (arith, u.1)))
decided_below X (suc n) d = below_step X n (d n (omega arith)) (decided_below X n (λ k lt. d k (omega arith)))
  where
    below_step : (X : ℕ → Type 0) (n : ℕ) → Decided (X n) → Decided ((k : ℕ) × (k < n) × X k) → Decided ((k : ℕ) × (k < suc n) × X k)
    below_step X n (inl x) e = inl (n, omega arith, x)
    below_step X n (inr not_last) (inl u) = inl (u.0, omega (arith, u.1), u.2)
    below_step X n (inr not_last) (inr none) = inr (λ u. neither X n not_last none u.0 u.1 u.2)
      where
        neither : (X : ℕ → Type 0) (n : ℕ) → (X n → ⊥) → (((k : ℕ) × (k < n) × X k) → ⊥) → (k : ℕ) → k < suc n → X k → ⊥
        neither X n not_last none k lt x = elim (dec_lt k n) [ yes l ↦ none (k, l, x) | no ge ↦ not_last (subst X (omega (arith, ge)) x) ]

-- a relation that stays below n leads to some number with the property
pub decided_some_next : (n : ℕ) (R X : ℕ → Type 0) → ((t : ℕ) → R t → t < n) → ((t : ℕ) → Decided (R t)) → ((t : ℕ) → t < n → Decided (X t)) → Decided ((t : ℕ) × R t × X t)
decided_some_next n R X into r x = decided_iff (λ u. (u.0, u.2.0, u.2.1)) (λ u. (u.0, into u.0 u.1, (u.1, u.2))) (decided_below (λ t. R t × X t) n (λ t lt. decided_both (r t) (x t lt)))

-- it leads to the property alone, or to some number without it
pub each_or_some : (n : ℕ) (R X : ℕ → Type 0) → ((t : ℕ) → R t → t < n) → ((t : ℕ) → Decided (R t)) → ((t : ℕ) → t < n → Decided (X t)) → ((t : ℕ) → R t → X t) ⊎ ((t : ℕ) × R t × (X t → ⊥))
each_or_some n R X into r x = elim (decided_some_next n R (λ t. X t → ⊥) into r (λ t lt. decided_not (x t lt))) [ inl u ↦ inr u | inr none ↦ inl (λ t step. elim (x t (into t step)) [ inl h ↦ h | inr fails ↦ absurd (none (t, step, fails)) ]) ]

pub decided_each_next : (n : ℕ) (R X : ℕ → Type 0) → ((t : ℕ) → R t → t < n) → ((t : ℕ) → Decided (R t)) → ((t : ℕ) → t < n → Decided (X t)) → Decided ((t : ℕ) → R t → X t)
decided_each_next n R X into r x = elim (each_or_some n R X into r x) [ inl h ↦ inl h | inr u ↦ inr (λ h. u.2 (h u.0 u.1)) ]
