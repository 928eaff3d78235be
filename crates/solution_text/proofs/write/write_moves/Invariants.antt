use Rattle.std.proofs.Common.{◌≡◌, ◌++◌, take}
use Rattle.std.specs.List.{flat_map}
use Rattle.solution_text.specs.SolutionText.{move_text}
use Rattle.solution_text.proofs.write.write_moves.Given as goal

abbrev pub invariant-loop-m : goal.invariant-loop-m
invariant-loop-m l = l.into.items ≡ l.initial.into.items ++ flat_map move_text (take l.m-index l.moves)
