use Rattle.std.proofs.Common.{◌≡◌, ◌++◌, take, All}
use Rattle.solution_text.specs.Laws.{IsNumbered}
use Rattle.solution_text.specs.SolutionText.{kinds_text}
use Rattle.solution_text.proofs.write.write_kinds.Given as goal

abbrev pub invariant-loop-number : goal.invariant-loop-number
invariant-loop-number l = record {
  written : l.into.items ≡ l.initial.into.items ++ kinds_text l.roles (take l.number l.kinds) (take l.number l.structures);
  numbered : All IsNumbered (take l.number l.structures);
}
