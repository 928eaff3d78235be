-- Shapes as lists of numbers, by which they are found among the stars of a certificate.
use Rattle.std.specs.Prelude.{ℕ, ◌≡◌, List, ◌∷◌, length, map, Contains}
use Rattle.std.specs.List.Sorted.{IsPermutation}
use Rattle.interconnection.specs.Network.{NetworkParts}
use Rattle.interconnection.specs.Shape.{IsBelow, IsShapeOf, ShapeParts, rank}
use Rattle.waitfor_check.specs.declared.star.Star.{Star}
use Rattle.waitfor_check.specs.inside.Walk.{AreSorted, Differ}

-- the role, and the ranks of the leaves
abbrev pub key_of : ShapeParts → List ℕ
key_of shape = shape.role ∷ map rank shape.leaves

abbrev pub star_key : Star → List ℕ
star_key star = key_of star.shape

-- the keys of these stars, sorted
pub record IsIndex (stars : List Star) (keys : List (List ℕ)) : Type 0 where
  pub same : IsPermutation (map star_key stars) keys
  pub sorted : AreSorted keys

-- each shape of k has its key among these
abbrev pub HasAllKeys : NetworkParts → ℕ → List (List ℕ) → Type 0
HasAllKeys net k keys = (shape : ShapeParts) → IsShapeOf net k shape → Contains keys (key_of shape)

-- shapes below this one, each with its key among these
pub record AreVisited (net : NetworkParts) (k : ℕ) (keys : List (List ℕ)) (shape : ShapeParts) (visited : List ShapeParts) : Type 0 where
  pub differ : Differ visited
  pub below : (other : ShapeParts) → Contains visited other → IsBelow other.leaves shape.leaves
  pub found : (other : ShapeParts) → Contains visited other → Contains keys (key_of other)

-- so many were visited, which are all the shapes below this one
pub record IsReached (net : NetworkParts) (k : ℕ) (keys : List (List ℕ)) (shape : ShapeParts) (n : ℕ) : Type 0 where
  pub is : IsShapeOf net k shape
  pub visited : (visited : List ShapeParts) × (length visited ≡ n) × AreVisited net k keys shape visited
  pub covered : (other : ShapeParts) → IsShapeOf net k other → IsBelow other.leaves shape.leaves → Contains keys (key_of other)
