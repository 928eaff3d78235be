use Rattle.firing_words.specs.inside.Said.{no_cell, no_system}
use Rattle.firing_words.proofs.words.Words.commit_seat.Given as goal

abbrev pub ghosts-commit_as : goal.ghosts-commit_as
ghosts-commit_as a = record { system = no_system; callers = 0; lock = 0; cell = no_cell; process = 0; wish = a.wish; stores = a.stores.now }
