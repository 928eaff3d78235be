-- How a network keeps the labels of each process's edges: they are read in the order of the edges, and then sorted.
use Rattle.std.specs.Prelude.{ℕ, ◌≡◌, ◌<◌, List, length, take}
use Rattle.std.specs.List.Sorted.{IsNonDecreasingBy, IsPermutation}
use Rattle.pair_structure.specs.declared.side.Side.{Side}
use Rattle.pair_structure.specs.Lists.{list_at}
use Rattle.interconnection.specs.declared.parts.Edge.{Edge}
use Rattle.interconnection.specs.Shape.{labels_of, rank}

-- for each of so many processes the labels of the first n edges
pub record AreRead (n count : ℕ) (edges : List Edge) (lists : List (List (ℕ × Side))) : Type 0 where
  pub size : length lists ≡ count
  pub labels : (k : ℕ) → k < count → list_at lists k ≡ labels_of (take n edges) k

-- those of all edges, sorted
pub record AreLabels (count : ℕ) (edges : List Edge) (lists : List (List (ℕ × Side))) : Type 0 where
  pub size : length lists ≡ count
  pub same : (k : ℕ) → k < count → IsPermutation (labels_of edges k) (list_at lists k)
  pub sorted : (k : ℕ) → k < count → IsNonDecreasingBy rank (list_at lists k)
