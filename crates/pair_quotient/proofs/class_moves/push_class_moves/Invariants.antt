use Rattle.std.proofs.Common.{◌≡◌, ◌++◌, map, take}
use Rattle.pair_quotient.specs.inside.ClassMoves.{class_move}
use Rattle.pair_quotient.proofs.class_moves.push_class_moves.Given as goal

abbrev pub invariant-loop-step : goal.invariant-loop-step
invariant-loop-step l = l.into.items ≡ l.initial.into.items ++ map (class_move l.classes) (take l.step-index l.moves)
