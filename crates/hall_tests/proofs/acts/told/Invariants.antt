use Rattle.std.proofs.Common.{All}
use Rattle.firing_hall.specs.Passes.{IsPassOf}
use Rattle.hall_tests.proofs.acts.told.Given as goal

abbrev pub invariant-loop-spelled : goal.invariant-loop-spelled
invariant-loop-spelled l = (goal.iterator-loop-spelled).can_next l.spelled-iterator × (goal.iterator-loop-spelled).is_finite l.spelled-iterator × All (IsPassOf l.hall) l.passes
