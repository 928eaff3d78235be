use Rattle.conjunctive_compose.specs.Whole.{IsProper}
use Rattle.call_tests.proofs.systems.left.Given as goal

abbrev pub invariant-loop-word : goal.invariant-loop-word
invariant-loop-word l = IsProper l.system l.w
