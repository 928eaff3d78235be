use Rattle.std.proofs.Common.{All, subst}
use Rattle.firing_journal.specs.Said.{HasSmallNumbers}
use Rattle.firing_journal.proofs.journal.Journal.entries.Goals as goal

pub returns-clause-small : goal.returns-clause-small
returns-clause-small c = let is = c.self.view_is in let small = c.self.invariant.small in subst (All HasSmallNumbers) is small
