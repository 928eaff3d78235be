use Rattle.std.proofs.Common.{[]}
use Rattle.firing_words.specs.inside.Said.{no_cell, no_system, no_wish}
use Rattle.firing_words.proofs.words.Words.lock_seat.Given as goal

abbrev pub ghosts-lock_as : goal.ghosts-lock_as
ghosts-lock_as a = record { system = no_system; callers = a.self.now.setting.callers; lock = a.lock; cell = no_cell; process = 0; wish = no_wish; stores = [] }
