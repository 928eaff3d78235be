use Rattle.std.proofs.Common.{[]}
use Rattle.firing_words.specs.inside.Said.{no_wish}
use Rattle.firing_words.proofs.words.Words.look_seat.Given as goal

abbrev pub ghosts-look_as : goal.ghosts-look_as
ghosts-look_as a = record { system = a.self.now.setting.system; callers = a.self.now.setting.callers; lock = 0; cell = a.cell; process = 0; wish = no_wish; stores = [] }
