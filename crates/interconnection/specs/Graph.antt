-- The graph: edges between processes, who is beside whom, and what a process locks.
use Rattle.std.specs.Prelude.{ℕ, ◌≡◌, ◌<◌, ◌+◌, ◌==◌, ◌||◌, ◌⊎◌, ◌↔◌, Bool, List, length, AllPairs, Any, Contains, count_by, slice_index_or}
use Rattle.pair_structure.specs.declared.side.Side.{Side}
use Rattle.pair_structure.specs.declared.side.Side.TheVariants.{A, B}
pub use Rattle.pair_structure.specs.Sides.{opposite}
use Rattle.interconnection.specs.declared.parts.Beside.{Beside}
use Rattle.interconnection.specs.declared.parts.Edge.{Edge}

-- an edge of a list by its number; past the end one of no matter
abbrev pub edge_at : List Edge → ℕ → Edge
edge_at edges e = slice_index_or edges e (record { a = 0; b = 0; kind = 0 })

-- the process on this side of the edge
abbrev pub end_of : Edge → Side → ℕ
end_of edge A = edge.a
end_of edge B = edge.b

-- edge number b.edge joins k, which is on side b.side of it, with b.process
pub record IsBeside (edges : List Edge) (k : ℕ) (b : Beside) : Type 0 where
  pub within : b.edge < length edges
  pub own : end_of (edge_at edges b.edge) b.side ≡ k
  pub other : end_of (edge_at edges b.edge) (opposite b.side) ≡ b.process

-- the neighbours of k, by rising number: for each edge of k the other process and k's own side
pub record AreNeighbours (edges : List Edge) (k : ℕ) (list : List Beside) : Type 0 where
  pub rising : AllPairs (λ (x y : Beside). x.process < y.process) list
  pub exactly : (b : Beside) → Contains list b ↔ IsBeside edges k b

-- one of the two processes that the edge joins is k
abbrev pub joins : ℕ → Edge → Bool
joins k edge = (edge.a == k) || (edge.b == k)

-- how many edges k has
abbrev pub degree_of : List Edge → ℕ → ℕ
degree_of edges k = count_by (joins k) edges

-- process k stands on a side of edge number e
abbrev pub StandsOn : List Edge → ℕ → ℕ → Type 0
StandsOn edges k e = (side : Side) × (end_of (edge_at edges e) side ≡ k)

-- number e is that of an edge of k
abbrev pub IsEdgeOf : List Edge → ℕ → ℕ → Type 0
IsEdgeOf edges k e = (e < length edges) × StandsOn edges k e

-- a lock of k: each edge has a lock of its number; a process without edges has one of its own, whose number comes behind
-- those of the edges
abbrev pub IsLockOf : List Edge → ℕ → ℕ → Type 0
IsLockOf edges k lock = IsEdgeOf edges k lock ⊎ ((lock ≡ length edges + k) × (degree_of edges k ≡ 0))

-- exactly the locks of k, by rising number: a firing of k takes them in this order
pub record IsLockPlan (edges : List Edge) (k : ℕ) (plan : List ℕ) : Type 0 where
  pub rising : AllPairs (λ (x y : ℕ). x < y) plan
  pub exactly : (lock : ℕ) → Contains plan lock ↔ IsLockOf edges k lock

-- the two edges join the same two processes, in either direction
abbrev pub JoinSame : Edge → Edge → Type 0
JoinSame x y = ((x.a ≡ y.a) × (x.b ≡ y.b)) ⊎ ((x.a ≡ y.b) × (x.b ≡ y.a))

-- some edge is between the two processes, whichever is its side a
abbrev pub AreJoined : List Edge → ℕ → ℕ → Type 0
AreJoined edges p q = Any (λ (e : Edge). ((e.a ≡ p) × (e.b ≡ q)) ⊎ ((e.a ≡ q) × (e.b ≡ p))) edges
