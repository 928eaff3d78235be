-- How the next choice of labels is found among sorted labels.
use Rattle.std.specs.Prelude.{ℕ, ◌≡◌, ◌<◌, ◌≤◌, ◌+◌, ◌-◌, List, length, take, drop, ◌++◌}
use Rattle.pair_structure.specs.declared.side.Side.{Side}
use Rattle.interconnection.specs.Shape.{IsBelow, IsChoice, rank_at}

-- so many of the labels, which stand first, are of this rank or a lower one
pub record IsPast (labels : List (ℕ × Side)) (r from : ℕ) : Type 0 where
  pub within : from ≤ length labels
  pub low : (i : ℕ) → i < from → rank_at labels i ≤ r
  pub high : (i : ℕ) → from ≤ i → i < length labels → r < rank_at labels i

-- too few labels are above that of leaf p to fill the places from p on
abbrev pub IsStuck : List (ℕ × Side) → List (ℕ × Side) → ℕ → Type 0
IsStuck labels leaves p = (from : ℕ) × IsPast labels (rank_at leaves p) from × (length labels < from + (length leaves - p))

-- leaf p is the last that can be raised, by the labels from this place on
pub record IsLastRaise (labels leaves : List (ℕ × Side)) (p from : ℕ) : Type 0 where
  pub within : p < length leaves
  pub past : IsPast labels (rank_at leaves p) from
  pub room : from + (length leaves - p) ≤ length labels
  pub stuck : (q : ℕ) → p < q → q < length leaves → IsStuck labels leaves q

-- the leaves before p, and then the labels from this place on
abbrev pub raised : List (ℕ × Side) → List (ℕ × Side) → ℕ → ℕ → List (ℕ × Side)
raised labels leaves p from = take p leaves ++ take (length leaves - p) (drop from labels)

-- the next choice of as many labels
pub record IsNextChoice (labels leaves next : List (ℕ × Side)) : Type 0 where
  pub choice : IsChoice labels next
  pub count : length next ≡ length leaves
  pub above : IsBelow leaves next
  pub between : (other : List (ℕ × Side)) → IsChoice labels other → length other ≡ length leaves → IsBelow leaves other → IsBelow other next → ⊥

-- no choice of as many labels comes after this one
abbrev pub IsLastChoice : List (ℕ × Side) → List (ℕ × Side) → Type 0
IsLastChoice labels leaves = (other : List (ℕ × Side)) → IsChoice labels other → length other ≡ length leaves → IsBelow leaves other → ⊥

-- the first choice of so many labels
pub record IsFirstChoice (labels : List (ℕ × Side)) (n : ℕ) (leaves : List (ℕ × Side)) : Type 0 where
  pub choice : IsChoice labels leaves
  pub count : length leaves ≡ n
  pub first : (other : List (ℕ × Side)) → IsChoice labels other → length other ≡ n → IsBelow other leaves → ⊥
