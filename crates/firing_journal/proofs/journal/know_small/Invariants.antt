use Rattle.std.proofs.Common.{All, take}
use Rattle.firing_journal.specs.Said.{HasSmallNumbers}
use Rattle.firing_journal.proofs.journal.know_small.Given as goal

abbrev pub invariant-loop-entry : goal.invariant-loop-entry
invariant-loop-entry l = All HasSmallNumbers (take l.entry-index l.entries)
