-- How many callers a crew may have, and how many replies each.
use Rattle.std.specs.Prelude.{ℕ, ◌<◌, ◌≤◌}
use Rattle.firing_crew.specs.declared.limits.TheConstants.{MAX_CALLERS, MAX_ROOM}

-- a crew of so many callers may fire so many processes
pub record MayFire (callers processes : ℕ) : Type 0 where
  pub some : 0 < callers
  pub few : callers ≤ MAX_CALLERS
  pub busy : callers ≤ processes

-- a caller may have so many replies
pub record MayReply (room : ℕ) : Type 0 where
  pub some : 0 < room
  pub few : room ≤ MAX_ROOM
