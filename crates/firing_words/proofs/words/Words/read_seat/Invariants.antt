use Rattle.std.proofs.Common.{[]}
use Rattle.firing_words.specs.inside.Said.{no_wish}
use Rattle.firing_words.proofs.words.Words.read_seat.Given as goal

abbrev pub ghosts-read_as : goal.ghosts-read_as
ghosts-read_as a = record { system = a.self.now.setting.system; callers = 0; lock = 0; cell = a.cell; process = 0; wish = no_wish; stores = [] }
