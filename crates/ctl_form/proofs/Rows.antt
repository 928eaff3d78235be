-- Rows of truth values: each value is decided, one more mark, and rows of equivalent facts.
use Rattle.std.proofs.Common.{ℕ, ◌≡◌, ◌≢◌, ◌<◌, ◌↔◌, inl, inr, Bool, true, false, List, length, refl, subst, sym, ◌∙◌, slice_index_or, slice_set, get_or-set_same, get_or-set_other}
use Rattle.std.proofs.Math.Decide.{ℕ_discrete}
use Rattle.ctl_form.specs.Row.{IsAt, IsRowOf}
use Rattle.ctl_form.proofs.Decided.{Decided}

decided_value : (b : Bool) → Decided (b ≡ true)
decided_value true = inl refl
decided_value false = inr (λ e. let f : false ≡ true = e in cc)

pub false_of : (b : Bool) → (b ≡ true → ⊥) → b ≡ false
false_of true none = absurd (none refl)
false_of false none = refl

pub decided_at : (row : List Bool) (s : ℕ) → Decided (IsAt row s)
decided_at row s = decided_value (slice_index_or row s false)

-- a row with one more mark
pub IsAt-set_same : (row : List Bool) (s : ℕ) → s < length row → IsAt (slice_set row s true) s
IsAt-set_same row s lt = get_or-set_same row s true false lt

pub IsAt-set_keeps : (row : List Bool) (s k : ℕ) → s < length row → IsAt row k → IsAt (slice_set row s true) k
IsAt-set_keeps row s k lt h = elim (ℕ_discrete k s) [ yes e ↦ subst (λ i. IsAt (slice_set row s true) i) (sym e) (IsAt-set_same row s lt) | no n ↦ (let differ : k ≢ s = n in get_or-set_other row s k true false differ ∙ h) ]

pub IsAt-set_back : (row : List Bool) (s k : ℕ) → k ≢ s → IsAt (slice_set row s true) k → IsAt row k
IsAt-set_back row s k differ h = sym (get_or-set_other row s k true false differ) ∙ h

pub IsRowOf-map : (n : ℕ) (X Y : ℕ → Type 0) (row : List Bool) → ((s : ℕ) → s < n → X s ↔ Y s) → IsRowOf n X row → IsRowOf n Y row
IsRowOf-map n X Y row same h = record { long = h.long; exact = λ s lt. (λ y. (same s lt).0 ((h.exact s lt).0 y), λ y. (h.exact s lt).1 ((same s lt).1 y)) }

-- nothing is true in a row of nothing
pub IsRowOf-none : (n : ℕ) (row : List Bool) → length row ≡ n → ((s : ℕ) → s < n → slice_index_or row s false ≡ false) → IsRowOf n (λ s. ⊥) row
IsRowOf-none n row long none = record { long = long; exact = λ s lt. (λ y. (let e = none s lt in let f : false ≡ true = sym e ∙ y in cc), λ u. absurd u) }
