-- The calm members of a star.
use Rattle.std.specs.Prelude.{ℕ, ◌≡◌, ◌≤◌, List, length, take, Contains}
use Rattle.conjunctive_compose.specs.System.{SystemParts}
use Rattle.waitfor_check.specs.Accepted.{IsCalmAt}
use Rattle.waitfor_check.specs.declared.star.Star.{Star}
use Rattle.waitfor_check.specs.inside.Walk.{AreSorted}

-- of the first n members those that are calm
pub record AreCalm (sys : SystemParts) (star : Star) (n : ℕ) (calm : List (List ℕ)) : Type 0 where
  pub sorted : AreSorted calm
  pub few : length calm ≤ n
  pub from : (xs : List ℕ) → Contains calm xs → Contains (take n star.members) xs × IsCalmAt sys star.shape xs
  pub has : (xs : List ℕ) → Contains (take n star.members) xs → IsCalmAt sys star.shape xs → Contains calm xs

-- a star's shape with its calm members alone
pub record IsCalmPart (sys : SystemParts) (star calm : Star) : Type 0 where
  pub shape : calm.shape ≡ star.shape
  pub members : AreCalm sys star (length star.members) calm.members
