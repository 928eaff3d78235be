use Rattle.std.proofs.Common.{[]}
use Rattle.firing_words.specs.inside.Said.{no_cell, no_wish}
use Rattle.firing_words.proofs.words.Words.tell_seat.Given as goal

abbrev pub ghosts-tell_as : goal.ghosts-tell_as
ghosts-tell_as a = record { system = a.self.now.setting.system; callers = a.self.now.setting.callers; lock = 0; cell = no_cell; process = 0; wish = no_wish; stores = [] }
