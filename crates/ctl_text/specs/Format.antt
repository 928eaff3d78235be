-- The two formats of specifications, and their limits.
use Rattle.std.specs.Prelude.{ℕ, List, codes}
use Rattle.interconnection.specs.declared.limits.TheConstants.{MAX_NEIGHBOURS, MAX_PROCESSES}
use Rattle.ctl_text.specs.declared.format.Format.{Format}
use Rattle.ctl_text.specs.declared.format.Format.TheVariants.{First, Second}
use Rattle.ctl_text.specs.declared.format.TheConstants.{FIRST_NEIGHBOURS, FIRST_PROCESSES}

-- the number of the format in the head of a text
abbrev pub format_number : Format → List ℕ
format_number First = codes "1"
format_number Second = codes "2"

-- the most processes of a text of the format
abbrev pub most_processes : Format → ℕ
most_processes First = FIRST_PROCESSES
most_processes Second = MAX_PROCESSES

-- the most neighbours of a process in a text of the format
abbrev pub most_neighbours : Format → ℕ
most_neighbours First = FIRST_NEIGHBOURS
most_neighbours Second = MAX_NEIGHBOURS
