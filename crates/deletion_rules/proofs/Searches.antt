-- Searches below a bound, and the next place in a round.
use Rattle.std.proofs.Common.{ℕ, zero, suc, ◌≡◌, ◌⊎◌, ◌<◌, inl, inr, subst, arith}
use Rattle.std.proofs.Math.Decide.{dec_lt}
use Rattle.deletion_rules.specs.inside.Picking.{IsNextPlace}

-- some number below n has the property, with none before it; or none has
abbrev pub Found : (ℕ → Type 0) → ℕ → Type 0
Found X n = ((y : ℕ) × (y < n) × X y × ((z : ℕ) → z < y → X z → ⊥)) ⊎ ((z : ℕ) → z < n → X z → ⊥)

pub search_below : (X : ℕ → Type 0) → ((z : ℕ) → X z ⊎ (X z → ⊥)) → (n : ℕ) → Found X n
search_below X d zero = inr (λ z lt x. absurd (omega (arith, lt)))
search_below X d (suc n) = by (search_below X d n) (d n)
  where
    by : Found X n → X n ⊎ (X n → ⊥) → Found X (suc n)
    by (inl u) e = inl (u.0, omega (arith, u.1), u.2, u.3)
    by (inr none) (inl x) = inl (n, omega arith, x, none)
    by (inr none) (inr fails) = inr (λ z lt x. elim (dec_lt z n) [ yes l ↦ none z l x | no g ↦ (let e : z ≡ n = omega (arith, lt, g) in fails (subst X e x)) ])

abbrev Behind : (ℕ → Type 0) → ℕ → ℕ → Type 0
Behind X x y = (x < y) × X y

pub next_place : (X : ℕ → Type 0) → ((z : ℕ) → X z ⊎ (X z → ⊥)) → (size x : ℕ) → x < size → (next : ℕ) × IsNextPlace X size x next
next_place X d size x lt = by (search_below (Behind X x) behind size) (search_below X d size)
  where
    behind : (z : ℕ) → Behind X x z ⊎ (Behind X x z → ⊥)
    behind z = elim (dec_lt x z) [ yes l ↦ elim (d z) [ inl h ↦ inl (l, h) | inr fails ↦ inr (λ u. fails u.1) ] | no g ↦ inr (λ u. g u.0) ]

    by : Found (Behind X x) size → Found X size → (next : ℕ) × IsNextPlace X size x next
    by (inl u) e = (u.0, record { within = u.1; passes = λ y ly passed h. elim passed [ inl v ↦ u.3 y v.1 (v.0, h) | inr v ↦ absurd (omega (arith, v.0, u.2.0)) ] })
    by (inr none) (inl v) = (v.0, record { within = v.1; passes = λ y ly passed h. elim passed [ inl w ↦ none y ly (w.0, h) | inr w ↦ elim w.1 [ inl b ↦ none y ly (b, h) | inr b ↦ v.3 y b h ] ] })
    by (inr none) (inr nowhere) = (x, record { within = lt; passes = λ y ly passed h. nowhere y ly h })
