-- Which of two processes is the first with so many edges.
use Rattle.std.proofs.Common.{ℕ, ◌≡◌, ◌<◌, ◌≤◌, ◌⊎◌, inl, inr, List, refl, arith}
use Rattle.std.proofs.lemmas.Bool.{cases_lt}
use Rattle.interconnection.specs.declared.parts.Edge.{Edge}
use Rattle.interconnection.specs.Graph.{degree_of}
use Rattle.ctl_text.specs.Cause.{IsCrowded, IsFirstCrowded}

module _ (most : ℕ) where
  swapped_one : (p q k : ℕ) → (k ≡ q) ⊎ (k ≡ p) → (k ≡ p) ⊎ (k ≡ q)
  swapped_one p q k (inl e) = inr e
  swapped_one p q k (inr e) = inl e

  pub crowded_swapped : (edges : List Edge) (p q k : ℕ) → IsCrowded most edges q p k → IsCrowded most edges p q k
  crowded_swapped edges p q k h = record { one_of = swapped_one p q k h.one_of; degree = h.degree }

  pub swapped_first : (edges : List Edge) (p q k : ℕ) → IsFirstCrowded most edges q p k → IsFirstCrowded most edges p q k
  swapped_first edges p q k h = record { crowded = crowded_swapped edges p q k h.crowded; first = λ other crowded. h.first other (crowded_swapped edges q p other crowded) }

  only_high : (edges : List Edge) (low high other : ℕ) → (most ≤ degree_of edges low → ⊥) → (other ≡ low) ⊎ (other ≡ high) → most ≤ degree_of edges other → high ≤ other
  only_high edges low high other none (inl e) full = absurd (none (rw e at full))
  only_high edges low high other none (inr e) full = omega arith

  pub high_crowded : (edges : List Edge) (low high : ℕ) → (most ≤ degree_of edges low → ⊥) → most ≤ degree_of edges high → IsFirstCrowded most edges low high high
  high_crowded edges low high none full = record { crowded = record { one_of = inr refl; degree = full }; first = λ other h. only_high edges low high other none h.one_of h.degree }

  low_first : (low high other : ℕ) → low ≤ high → (other ≡ low) ⊎ (other ≡ high) → low ≤ other
  low_first low high other le (inl e) = omega arith
  low_first low high other le (inr e) = omega arith

  only_full : (edges : List Edge) (low high k : ℕ) → degree_of edges low < most → (k ≡ low) ⊎ (k ≡ high) → most ≤ degree_of edges k → most ≤ degree_of edges high
  only_full edges low high k few (inl e) full = absurd (let at = rw e at full in omega (arith, at, few))
  only_full edges low high k few (inr e) full = rw e at full

  -- where none of two is the first that is crowded, none is crowded
  ordered : (edges : List Edge) (low high : ℕ) → low ≤ high → ((k : ℕ) → IsFirstCrowded most edges low high k → ⊥) → (k : ℕ) → IsCrowded most edges low high k → ⊥
  ordered edges low high le none k crowded = elim (cases_lt (degree_of edges low) most) [
    | inl few ↦ none high (high_crowded edges low high (λ full. omega (arith, full, few)) (only_full edges low high k few crowded.one_of crowded.degree))
    | inr full ↦ none low (record { crowded = record { one_of = inl refl; degree = full }; first = λ other h. low_first low high other le h.one_of })
  ]

  pub none_crowded : (edges : List Edge) (p q : ℕ) → ((k : ℕ) → IsFirstCrowded most edges p q k → ⊥) → (k : ℕ) → IsCrowded most edges p q k → ⊥
  none_crowded edges p q none k crowded = elim (cases_lt q p) [
    | inl lt ↦ ordered edges q p (omega arith) (λ k first. none k (swapped_first edges p q k first)) k (crowded_swapped edges q p k crowded)
    | inr le ↦ ordered edges p q le none k crowded
  ]
