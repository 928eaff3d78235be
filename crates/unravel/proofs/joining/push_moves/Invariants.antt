use Rattle.std.proofs.Common.{◌≡◌, ◌++◌, map, take}
use Rattle.unravel.specs.inside.Joining.{moved}
use Rattle.unravel.proofs.joining.push_moves.Given as goal

abbrev pub invariant-loop-step : goal.invariant-loop-step
invariant-loop-step l = l.moves.items ≡ l.initial.moves.items ++ map (moved l.begun l.size) (take l.step-index l.steps)
