-- How a network finds neighbours and locks: for each process the list of them, as the edges are read one after another.
use Rattle.std.specs.Prelude.{ℕ, ◌≡◌, ◌<◌, ◌+◌, ◌==◌, ◌++◌, ◌⊎◌, ◌↔◌, ◌∷◌, List, [], length, AllPairs, Contains, cond, count_by, slice_index_or, take}
use Rattle.pair_structure.specs.Sides.{opposite}
use Rattle.interconnection.specs.declared.parts.Beside.{Beside}
use Rattle.interconnection.specs.declared.parts.Edge.{Edge}
use Rattle.interconnection.specs.Graph.{AreNeighbours, IsLockPlan, StandsOn, degree_of, edge_at, end_of, joins}

-- the neighbours of a process, and its plan
pub record Around : Type 0 where
  pub beside : List Beside
  pub plan : List ℕ

-- the neighbours rise
abbrev pub IsOrdered : List Beside → Type 0
IsOrdered beside = AllPairs (λ (x y : Beside). x.process < y.process) beside

-- process j is one of the neighbours
abbrev pub HasBeside : List Beside → ℕ → Type 0
HasBeside beside j = (b : Beside) × Contains beside b × (b.process ≡ j)

-- one more neighbour, and its edge behind those of the plan
pub record IsGrown (old : Around) (b : Beside) (new : Around) : Type 0 where
  pub ordered : IsOrdered new.beside
  pub beside : (x : Beside) → Contains new.beside x ↔ (x ≡ b) ⊎ Contains old.beside x
  pub plan : new.plan ≡ old.plan ++ b.edge ∷ []
  pub count : length new.beside ≡ length old.beside + 1

-- one of the first n edges, number b.edge, joins k, on side b.side, with b.process
pub record IsBesideBelow (n : ℕ) (edges : List Edge) (k : ℕ) (b : Beside) : Type 0 where
  pub within : b.edge < n
  pub own : end_of (edge_at edges b.edge) b.side ≡ k
  pub other : end_of (edge_at edges b.edge) (opposite b.side) ≡ b.process

-- one of the first n edges, number e, is k's
abbrev pub IsEdgeBelow : ℕ → List Edge → ℕ → ℕ → Type 0
IsEdgeBelow n edges k e = (e < n) × StandsOn edges k e

-- exactly the numbers of k's edges among the first n, rising, and as many as these edges
pub record AreEdgesBelow (n : ℕ) (edges : List Edge) (k : ℕ) (plan : List ℕ) : Type 0 where
  pub rising : AllPairs (λ (x y : ℕ). x < y) plan
  pub exactly : (e : ℕ) → Contains plan e ↔ IsEdgeBelow n edges k e
  pub count : length plan ≡ count_by (joins k) (take n edges)

-- what stands around k by the first n edges
pub record IsAround (n : ℕ) (edges : List Edge) (k : ℕ) (around : Around) : Type 0 where
  pub ordered : IsOrdered around.beside
  pub beside : (b : Beside) → Contains around.beside b ↔ IsBesideBelow n edges k b
  pub count : length around.beside ≡ count_by (joins k) (take n edges)
  pub plan : AreEdgesBelow n edges k around.plan

abbrev pub nothing : Around
nothing = record { beside = []; plan = [] }

abbrev pub around_at : List Around → ℕ → Around
around_at arounds k = slice_index_or arounds k nothing

-- so many processes without edges
pub record AreEmpty (count : ℕ) (arounds : List Around) : Type 0 where
  pub size : length arounds ≡ count
  pub each : (k : ℕ) → k < count → around_at arounds k ≡ nothing

-- what stands around each of so many processes by the first n edges
pub record AreAroundBelow (n count : ℕ) (edges : List Edge) (arounds : List Around) : Type 0 where
  pub size : length arounds ≡ count
  pub each : (k : ℕ) → k < count → IsAround n edges k (around_at arounds k)

abbrev pub AreAround : ℕ → List Edge → List Around → Type 0
AreAround count edges = AreAroundBelow (length edges) count edges

-- the same neighbours, and where the plan was empty it has this lock now
pub record IsGiven (old : Around) (lock : ℕ) (new : Around) : Type 0 where
  pub beside : new.beside ≡ old.beside
  pub plan : new.plan ≡ cond (length old.plan == 0) (lock ∷ []) old.plan

-- each process without an edge got the lock of its own number behind so many edges
pub record AreGivenBelow (n edge_count : ℕ) (old new : List Around) : Type 0 where
  pub size : length new ≡ length old
  pub given : (k : ℕ) → k < n → IsGiven (around_at old k) (edge_count + k) (around_at new k)
  pub later : (k : ℕ) → (k < n → ⊥) → around_at new k ≡ around_at old k

abbrev pub AreGiven : ℕ → List Around → List Around → Type 0
AreGiven edge_count old = AreGivenBelow (length old) edge_count old

-- the neighbours and the locks of a process, by all edges
pub record IsLocked (edges : List Edge) (k : ℕ) (around : Around) : Type 0 where
  pub neighbours : AreNeighbours edges k around.beside
  pub degree : length around.beside ≡ degree_of edges k
  pub plan : IsLockPlan edges k around.plan

pub record AreLocked (count : ℕ) (edges : List Edge) (arounds : List Around) : Type 0 where
  pub size : length arounds ≡ count
  pub each : (k : ℕ) → k < count → IsLocked edges k (around_at arounds k)
