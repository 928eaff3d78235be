-- How many processes a system of `big` has, and how many replies its one caller makes.
use Rattle.std.specs.Prelude.{ℕ, ◌<◌, ◌≤◌}
use Rattle.interconnection.specs.declared.limits.TheConstants.{MAX_PROCESSES}
use Rattle.firing_crew.specs.declared.limits.TheConstants.{MAX_ROOM}
use Rattle.big_system.specs.declared.limits.TheConstants.{MIN_PROCESSES}

pub record IsInLimits (count rounds : ℕ) : Type 0 where
  pub enough : MIN_PROCESSES ≤ count
  pub few : count ≤ MAX_PROCESSES
  pub some : 0 < rounds
  pub short : rounds ≤ MAX_ROOM
