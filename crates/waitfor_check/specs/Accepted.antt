-- Accepted certificates.
use Rattle.std.specs.Prelude.{ℕ, ◌≡◌, ◌<◌, ◌⊎◌, List, length, All, Any, Contains, slice_index}
use Rattle.interconnection.specs.Graph.{degree_of}
use Rattle.interconnection.specs.Shape.{ShapeParts, IsShapeOf}
use Rattle.conjunctive_compose.specs.System.{SystemParts, edge_at, edge_count, process_count}
use Rattle.conjunctive_compose.specs.Whole.{HasPair, start_of}
use Rattle.conjunctive_compose.specs.Peel.{HasPeelOrder}
use Rattle.waitfor_check.specs.Star.{CentreMayGo, CentreStep, IsStarState, IsStep, LeavesMayGo, leaf_at}
use Rattle.waitfor_check.specs.declared.star.Star.{Star}

-- s is the pair state of some edge of the kind in the start of the system
abbrev pub IsStartOf : SystemParts → ℕ → ℕ → Type 0
IsStartOf sys kind s = (e : ℕ) × (e < edge_count sys) × ((edge_at sys e).kind ≡ kind) × HasPair sys (start_of sys) e s

-- a pair of this kind may begin in s: it is state 0, or some edge of the kind starts there
abbrev pub MayBegin : SystemParts → ℕ → ℕ → Type 0
MayBegin sys kind s = (s ≡ 0) ⊎ IsStartOf sys kind s

-- each star state in which every leaf may begin is a member
abbrev pub HasStarts : SystemParts → Star → Type 0
HasStarts sys star = (xs : List ℕ) → IsStarState sys star.shape xs → ((i : ℕ) → i < length star.shape.leaves → MayBegin sys (leaf_at star.shape i).0 (slice_index xs i)) → Contains star.members xs

-- every step of a member reaches a member
abbrev pub IsClosed : SystemParts → Star → Type 0
IsClosed sys star = (xs ys : List ℕ) → Contains star.members xs → IsStep sys star.shape xs ys → Contains star.members ys

-- the centre permits every arc of the leaves, or some arc of the centre is permitted by all of them
abbrev pub IsCalmAt : SystemParts → ShapeParts → List ℕ → Type 0
IsCalmAt sys shape ys = LeavesMayGo sys shape ys ⊎ CentreMayGo sys shape ys

-- so it is after each centre step of a member
abbrev pub IsCalm : SystemParts → Star → Type 0
IsCalm sys star = (arc : ℕ) (xs ys : List ℕ) → Contains star.members xs → CentreStep sys star.shape arc xs ys → IsCalmAt sys star.shape ys

-- the certificate has this shape
abbrev pub HasShape : List Star → ShapeParts → Type 0
HasShape stars shape = Any (λ (star : Star). star.shape ≡ shape) stars

pub record IsAccepted (sys : SystemParts) (stars : List Star) : Type 0 where
  pub start : HasPeelOrder sys (start_of sys)
  pub shapes : (k : ℕ) (shape : ShapeParts) → k < process_count sys → 0 < degree_of sys.network.edges k → IsShapeOf sys.network k shape → HasShape stars shape
  pub starts : All (HasStarts sys) stars
  pub closed : All (IsClosed sys) stars
  pub calm : All (IsCalm sys) stars
