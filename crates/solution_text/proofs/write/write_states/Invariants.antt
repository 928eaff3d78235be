use Rattle.std.proofs.Common.{◌≡◌, ◌++◌, take}
use Rattle.std.specs.List.{flat_map}
use Rattle.solution_text.specs.SolutionText.{state_text}
use Rattle.solution_text.proofs.write.write_states.Given as goal

abbrev pub invariant-loop-label : goal.invariant-loop-label
invariant-loop-label l = l.into.items ≡ l.initial.into.items ++ flat_map (state_text l.a l.b) (take l.label-index l.states)
