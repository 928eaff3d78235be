-- What a certificate that fits has of each star.
use Rattle.std.specs.Prelude.{ℕ, ◌≡◌, ◌<◌, ◌≤◌, List, length, All}
use Rattle.conjunctive_compose.specs.System.{SystemParts}
use Rattle.waitfor_check.specs.Star.{IsStarState, centre_role}
use Rattle.waitfor_check.specs.Steps.{HasKinds}
use Rattle.waitfor_check.specs.declared.star.Star.{Star}
use Rattle.waitfor_check.specs.inside.Walk.{AreSorted}

-- what a certificate that fits has of each star
pub record IsFitting (sys : SystemParts) (star : Star) : Type 0 where
  pub kinds : HasKinds sys star.shape
  pub roles : (i : ℕ) → i < length star.shape.leaves → centre_role sys star.shape i ≡ star.shape.role
  pub some : 0 < length star.shape.leaves
  pub few_leaves : length star.shape.leaves ≤ 32
  pub states : All (IsStarState sys star.shape) star.members
  pub sorted : AreSorted star.members
