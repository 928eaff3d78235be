-- Certificates that fit a system.
use Rattle.std.specs.Prelude.{ℕ, ◌≡◌, ◌≢◌, ◌<◌, ◌≤◌, List, length, All, AllPairs}
use Rattle.std.specs.List.{AllAdjacentBelow}
use Rattle.std.specs.List.Sorted.{IsNonDecreasingBy}
use Rattle.std.specs.Ordering.{nat_cmp}
use Rattle.std.specs.Cmp.Lexicographic.{slice_cmp}
use Rattle.std.specs.declared.cmp.Ordering.TheVariants.{Less}
use Rattle.pair_structure.specs.declared.side.Side.{Side}
use Rattle.pair_structure.specs.Sides.{local_of}
use Rattle.interconnection.specs.Network.{ends_of}
use Rattle.interconnection.specs.Shape.{ShapeParts, rank}
use Rattle.conjunctive_compose.specs.System.{SystemParts}
use Rattle.waitfor_check.specs.Star.{IsStarState}
use Rattle.waitfor_check.specs.declared.star.Star.{Star}

-- the kind exists, and this side of it has the role of this number
abbrev pub IsLabelOf : SystemParts → ℕ → ℕ × Side → Type 0
IsLabelOf sys role label = (label.0 < length sys.network.ends) × (local_of label.1 (ends_of sys.network.ends label.0) ≡ role)

-- the role exists, and there are 1 to 32 labels of it, sorted
pub record ShapeFits (sys : SystemParts) (shape : ShapeParts) : Type 0 where
  pub role : shape.role < length sys.network.roles
  pub some : 0 < length shape.leaves
  pub few : length shape.leaves ≤ 32
  pub labels : All (IsLabelOf sys shape.role) shape.leaves
  pub sorted : IsNonDecreasingBy rank shape.leaves

-- of two lists the first comes before
abbrev pub IsLower : List ℕ → List ℕ → Type 0
IsLower xs ys = slice_cmp nat_cmp xs ys ≡ Less

-- members rise, so that none stands twice
abbrev pub Rise : List (List ℕ) → Type 0
Rise members = AllAdjacentBelow IsLower members (length members)

pub record StarFits (sys : SystemParts) (star : Star) : Type 0 where
  pub shape : ShapeFits sys star.shape
  pub states : All (IsStarState sys star.shape) star.members
  pub rising : Rise star.members

-- no shape stands twice
abbrev pub ShapesDiffer : List Star → Type 0
ShapesDiffer stars = AllPairs (λ (x y : Star). x.shape ≢ y.shape) stars

pub record Fits (sys : SystemParts) (stars : List Star) : Type 0 where
  pub each : All (StarFits sys) stars
  pub differ : ShapesDiffer stars
