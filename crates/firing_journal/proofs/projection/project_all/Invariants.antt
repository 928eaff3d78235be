use Rattle.firing_journal.specs.Journal.{wishes_of}
use Rattle.firing_journal.proofs.Projections.{ProjectedUpTo}
use Rattle.firing_journal.proofs.projection.project_all.Given as goal

abbrev pub invariant-loop-entry : goal.invariant-loop-entry
invariant-loop-entry l = ProjectedUpTo l.system (wishes_of l.entries) l.edge l.entry-index l.whole l.moves.items
