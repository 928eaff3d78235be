use Rattle.std.proofs.Common.{◌≡◌, ◌<◌, drop, length}
use Rattle.firing_words.specs.History.{Making}
use Rattle.firing_words.specs.Lists.{Has}
use Rattle.firing_hall.specs.inside.Gathering.{makings_of, placed}
use Rattle.firing_hall.proofs.gathering.place_all.Given as goal

abbrev pub invariant-loop-i : goal.invariant-loop-i
invariant-loop-i l = (placed l.entries l.caller (drop l.i l.asked) ≡ placed l.initial.entries l.caller l.asked) × ((m : Making) → Has m (makings_of (drop l.i l.asked)) → m.number < length l.entries)
