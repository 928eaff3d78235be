use Rattle.std.proofs.Common.{[]}
use Rattle.firing_words.specs.inside.Said.{no_cell, no_system, no_wish}
use Rattle.firing_words.proofs.words.Words.place_seat.Given as goal

abbrev pub ghosts-place_as : goal.ghosts-place_as
ghosts-place_as a = record { system = no_system; callers = 0; lock = 0; cell = no_cell; process = a.process; wish = no_wish; stores = [] }
