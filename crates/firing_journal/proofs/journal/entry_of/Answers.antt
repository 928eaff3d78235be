use Rattle.std.proofs.Common.{arith}
use Rattle.firing_journal.proofs.Numbered.{small_numbers}
use Rattle.firing_journal.proofs.journal.entry_of.Goals as goal

pub returns-clause-small : goal.returns-clause-small
returns-clause-small c = small_numbers _ (omega arith) (omega arith) (omega arith) (omega arith) (omega arith)
