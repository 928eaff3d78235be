-- Which commands are permitted, and which of them is picked.
use Rattle.std.specs.Prelude.{ℕ, ◌==◌, ◌&&◌, ◌%◌, Bool, List, length, filter, slice_index_or}
use Rattle.skeleton_extract.specs.declared.command.Command.{Command}

-- the other process is in this local state and the shared value is x
abbrev pub is_permitted : ℕ → ℕ → Command → Bool
is_permitted other x c = (c.other == other) && (c.x == x)

abbrev pub permitted_of : List Command → ℕ → ℕ → List Command
permitted_of commands other x = filter (is_permitted other x) commands

abbrev pub no_command : Command
no_command = record { other = 0; x = 0; set = 0 }

-- the permitted command number pick, counted round
abbrev pub picked : List Command → ℕ → Command
picked permitted pick = slice_index_or permitted (pick % length permitted) no_command
