-- Induction on a pair of numbers, and how far a place lies ahead in a round.
use Rattle.std.proofs.Common.{ℕ, zero, suc, ◌≡◌, ◌⊎◌, ◌<◌, ◌≤◌, ◌+◌, ◌-◌, inl, inr, arith}
use Rattle.std.proofs.Math.Decide.{dec_le, dec_lt}
use Rattle.deletion_rules.specs.Unravel.{IsPassed}

gap : (size p q : ℕ) → Dec (p ≤ q) → ℕ
gap size p q (yes l) = q - p
gap size p q (no n) = (q + size) - p

-- how far one has to go from p to come to q
pub round_distance : ℕ → ℕ → ℕ → ℕ
round_distance size p q = gap size p q (dec_le p q)

-- a place that is neither p nor passed is behind p', or before it
Ahead : ℕ → ℕ → ℕ → Type 0
Ahead p p' q = ((p < p') × ((q < p) ⊎ (p' ≤ q))) ⊎ ((p' ≤ q) × (q < p))

ahead : (p p' q : ℕ) → (p ≡ q → ⊥) → (IsPassed p p' q → ⊥) → Ahead p p' q
unfolding Ahead
ahead p p' q ne none = by (dec_lt p p') (dec_lt q p)
  where
    by : Dec (p < p') → Dec (q < p) → Ahead p p' q
    by (yes l) (yes k) = inl (l, inl k)
    by (yes l) (no k) = elim (dec_le p' q) [ yes j ↦ inl (l, inr j) | no j ↦ absurd (none (inl (omega (arith, k, ne), omega (arith, j)))) ]
    by (no l) (yes k) = elim (dec_le p' q) [ yes j ↦ inr (j, k) | no j ↦ absurd (none (inr (omega (arith, l), inr (omega (arith, j))))) ]
    by (no l) (no k) = absurd (none (inr (omega (arith, l), inl (omega (arith, k, ne)))))

gap_falls : (size p p' q : ℕ) (d : Dec (p ≤ q)) (d' : Dec (p' ≤ q)) → p < size → q < size → Ahead p p' q → gap size p' q d' < gap size p q d
unfolding gap Ahead
gap_falls size p p' q (yes l) (yes l') lt lq (inl e) = omega (arith, e.0, e.1, l, l')
gap_falls size p p' q (yes l) (no n') lt lq (inl e) = omega (arith, e.0, e.1, l, n')
gap_falls size p p' q (no n) (yes l') lt lq (inl e) = omega (arith, e.0, e.1, n, l')
gap_falls size p p' q (no n) (no n') lt lq (inl e) = omega (arith, e.0, e.1, n, n')
gap_falls size p p' q (yes l) (yes l') lt lq (inr e) = omega (arith, e.0, e.1, l, l')
gap_falls size p p' q (yes l) (no n') lt lq (inr e) = omega (arith, e.0, e.1, l, n')
gap_falls size p p' q (no n) (yes l') lt lq (inr e) = omega (arith, e.0, e.1, n, l')
gap_falls size p p' q (no n) (no n') lt lq (inr e) = omega (arith, e.0, e.1, n, n')

-- a move to p' that does not pass q comes nearer to it
pub distance_falls : (size p p' q : ℕ) → p < size → q < size → (p ≡ q → ⊥) → (IsPassed p p' q → ⊥) → round_distance size p' q < round_distance size p q
unfolding round_distance
distance_falls size p p' q lt lq ne none = gap_falls size p p' q (dec_le p q) (dec_le p' q) lt lq (ahead p p' q ne none)

-- t comes below s by the first number, or by the second where the first stays
abbrev pub Below : (ℕ → ℕ) → (ℕ → ℕ) → ℕ → ℕ → Type 0
Below far rank t s = (far t < far s) ⊎ ((far t ≡ far s) × (rank t < rank s))

module _ (far rank : ℕ → ℕ) (X : ℕ → Type 0) (step : (s : ℕ) → ((t : ℕ) → Below far rank t s → X t) → X s) where
  inner : (d : ℕ) → ((t : ℕ) → far t < d → X t) → (r s : ℕ) → far s ≤ d → rank s < r → X s
  inner d smaller zero s le lt = absurd (omega (arith, lt))
  inner d smaller (suc r) s le lt = step s (λ t b. elim b [ inl l ↦ smaller t (omega (arith, l)) | inr l ↦ inner d smaller r t (omega (arith, l)) (omega (arith, l)) ])

  outer : (d s : ℕ) → far s < d → X s
  outer zero s lt = absurd (omega (arith, lt))
  outer (suc d) s lt = inner d (outer d) (suc (rank s)) s (omega (arith, lt)) (omega arith)

  -- induction on the pair
  pub descend : (s : ℕ) → X s
  descend s = outer (suc (far s)) s (omega arith)
