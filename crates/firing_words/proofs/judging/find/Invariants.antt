use Rattle.std.specs.Prelude.{drop}
use Rattle.firing_words.specs.Stars.{HasReading}
use Rattle.firing_words.proofs.judging.find.Given as goal

abbrev pub invariant-loop-i : goal.invariant-loop-i
invariant-loop-i l = HasReading (drop l.i l.known) l.cell
