-- The laws of the graph.
use Rattle.std.specs.Prelude.{ℕ, ◌≡◌, ◌≢◌, ◌<◌, ◌≤◌, ◌+◌, ◌*◌, ◌^◌, ◌==◌, ◌↔◌, List, [], ◌∷◌, AllPairs, Contains, count_by, length}
use Rattle.pair_structure.specs.declared.side.Side.{Side}
use Rattle.pair_structure.specs.Sides.{opposite}
use Rattle.interconnection.specs.declared.parts.Edge.{Edge}
use Rattle.interconnection.specs.Graph.{IsBeside, IsLockOf, IsLockPlan, degree_of}
use Rattle.interconnection.specs.Network.{NetworkParts, IsNetwork}
use Rattle.interconnection.specs.Shape.{ShapeParts, IsBelow, IsFirstShape, IsLastShape, IsNextShape, IsShapeOf}

-- j is a neighbour of k exactly where k is one of j, by the same edge and with the other side
abbrev pub NeighboursAreMutual : Type 0
NeighboursAreMutual = (edges : List Edge) (j k e : ℕ) (side : Side) → IsBeside edges k (record { process = j; edge = e; side = side }) ↔ IsBeside edges j (record { process = k; edge = e; side = opposite side })

-- each lock of a plan stands in it once
abbrev pub LocksStandOnce : Type 0
LocksStandOnce = (edges : List Edge) (k : ℕ) (plan : List ℕ) (lock : ℕ) → IsLockPlan edges k plan → IsLockOf edges k lock → count_by (λ l. l == lock) plan ≡ 1

-- the locks that two processes share are exactly the edges that join the two; so the lock of a process without edges is no
-- other's
abbrev pub SharedLocksJoin : Type 0
SharedLocksJoin = (edges : List Edge) (j k lock : ℕ) → j ≢ k → (IsLockOf edges j lock × IsLockOf edges k lock) ↔ ((side : Side) × IsBeside edges k (record { process = j; edge = lock; side = side }))

-- a network has at most half its greatest degree of edges a process
abbrev pub FewEdges : Type 0
FewEdges = (net : NetworkParts) (most : ℕ) → IsNetwork net → ((k : ℕ) → k < length net.processes → degree_of net.edges k ≤ most) → 2 * length net.edges ≤ most * length net.processes

-- so many numbers the locks of a network may have: one for each edge, and behind them one for each process
abbrev pub lock_count : NetworkParts → ℕ
lock_count net = length net.edges + length net.processes

-- each lock has such a number, and they are few: at most 33 a process, and 32 bits number them
pub record HasFewLocks (net : NetworkParts) : Type 0 where
  pub within : (k lock : ℕ) → k < length net.processes → IsLockOf net.edges k lock → lock < lock_count net
  pub each : lock_count net ≤ 33 * length net.processes
  pub all : lock_count net < 2 ^ 32

abbrev pub FewLocks : Type 0
FewLocks = (net : NetworkParts) → IsNetwork net → HasFewLocks net

-- after this shape of k come these, each next after the one before it, up to the last
abbrev pub GoesToLast : NetworkParts → ℕ → ShapeParts → List ShapeParts → Type 0
GoesToLast net k shape [] = IsLastShape net k shape
GoesToLast net k shape (next ∷ later) = IsNextShape net k shape next × GoesToLast net k next later

-- from the first on they are the shapes of k, each of them once, in rising order
pub record AreAllShapes (net : NetworkParts) (k : ℕ) (shapes : List ShapeParts) : Type 0 where
  pub rising : AllPairs (λ (x y : ShapeParts). IsBelow x.leaves y.leaves) shapes
  pub exactly : (shape : ShapeParts) → Contains shapes shape ↔ IsShapeOf net k shape

abbrev pub NextShapesAreAll : Type 0
NextShapesAreAll = (net : NetworkParts) (k : ℕ) (first : ShapeParts) (later : List ShapeParts) → IsFirstShape net k first → GoesToLast net k first later → AreAllShapes net k (first ∷ later)
