-- What stands at a place of a list that another was put behind.
use Rattle.std.proofs.Common.{ℕ, zero, suc, ◌≡◌, ◌⊎◌, ◌++◌, inl, inr, Some, List, [], ◌∷◌, length, refl, subst, ap, slice_get, Contains}
use Rattle.std.proofs.lemmas.Option.{same_Some, none-some, slice_get-get_or}

pub kept_before : {X : Type 0} (xs ys : List X) (n : ℕ) (x : X) → slice_get xs n ≡ Some x → slice_get (xs ++ ys) n ≡ Some x
kept_before [] ys n x e = absurd (none-some x e)
kept_before (y ∷ xs) ys zero x e = e
kept_before (y ∷ xs) ys (suc n) x e = kept_before xs ys n x e

pub stands_last : {X : Type 0} (xs : List X) (y : X) → slice_get (xs ++ y ∷ []) (length xs) ≡ Some y
stands_last [] y = refl
stands_last (x ∷ xs) y = stands_last xs y

pub before_or_last : {X : Type 0} (xs : List X) (y : X) (n : ℕ) (x : X) → slice_get (xs ++ y ∷ []) n ≡ Some x → (slice_get xs n ≡ Some x) ⊎ ((n ≡ length xs) × (y ≡ x))
before_or_last [] y zero x e = inr (refl, same_Some y x e)
before_or_last [] y (suc n) x e = absurd (none-some x e)
before_or_last (z ∷ xs) y zero x e = inl e
before_or_last (z ∷ xs) y (suc n) x e = elim (before_or_last xs y n x e) [ inl h ↦ inl h | inr h ↦ inr (ap (λ k. suc k) h.0, h.1) ]

pub at_contained : {X : Type 0} (xs : List X) (x : X) → Contains xs x → (n : ℕ) × (slice_get xs n ≡ Some x)
at_contained xs x h = (h.0, subst (λ y. slice_get xs h.0 ≡ Some y) h.2 (slice_get-get_or xs h.0 x h.1))
