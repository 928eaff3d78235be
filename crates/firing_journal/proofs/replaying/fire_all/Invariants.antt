use Rattle.firing_journal.specs.Journal.{wishes_of}
use Rattle.firing_journal.proofs.Replays.{FiredUpTo}
use Rattle.firing_journal.proofs.replaying.fire_all.Given as goal

abbrev pub invariant-loop-at : goal.invariant-loop-at
invariant-loop-at l = FiredUpTo l.system (wishes_of l.entries) l.at l.whole l.moves
