use Rattle.std.proofs.Common.{length}
use Rattle.firing_journal.proofs.Texts.{IsReadWith}
use Rattle.firing_journal.proofs.read.read_entries.Given as goal

abbrev pub invariant-loop-rest : goal.invariant-loop-rest
invariant-loop-rest l = IsReadWith l.system l.bytes l.rest l.journal l.line

abbrev pub decreases-loop-rest : goal.decreases-loop-rest
decreases-loop-rest l = length l.rest
