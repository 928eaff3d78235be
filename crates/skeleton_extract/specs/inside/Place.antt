-- Where the commands for a local state of the other side and a value stand among commands that rise.
use Rattle.std.specs.Prelude.{ℕ, ◌==◌, ◌&&◌, ◌||◌, Bool, nat_le, nat_lt}
use Rattle.skeleton_extract.specs.declared.command.Command.{Command}

-- the command is for a lower local state, or for a lower value
abbrev pub comes_before : ℕ → ℕ → Command → Bool
comes_before other x c = nat_lt c.other other || ((c.other == other) && nat_lt c.x x)

-- the command is for no higher local state and value
abbrev pub comes_by : ℕ → ℕ → Command → Bool
comes_by other x c = nat_lt c.other other || ((c.other == other) && nat_le c.x x)
