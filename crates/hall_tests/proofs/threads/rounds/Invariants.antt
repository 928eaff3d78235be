use Rattle.firing_hall.specs.Passes.{IsPassOf}
use Rattle.hall_tests.proofs.threads.rounds.Given as goal

abbrev pub invariant-loop-n : goal.invariant-loop-n
invariant-loop-n l = IsPassOf l.hall l.pass
