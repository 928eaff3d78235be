use Rattle.std.proofs.Common.{[]}
use Rattle.firing_words.specs.inside.Said.{no_cell, no_wish}
use Rattle.firing_words.proofs.words.Words.unlock_seat.Given as goal

abbrev pub ghosts-unlock_as : goal.ghosts-unlock_as
ghosts-unlock_as a = record { system = a.self.now.setting.system; callers = 0; lock = a.lock; cell = no_cell; process = 0; wish = no_wish; stores = [] }
