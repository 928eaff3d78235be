use Rattle.std.specs.Prelude.{All}
use Rattle.firing_hall.specs.Passes.{IsPassOf}
use Rattle.hall_example.proofs.turns.all_turns.Given as goal

abbrev pub invariant-loop : goal.invariant-loop
invariant-loop g l = All (IsPassOf l.hall) l.passes.items
