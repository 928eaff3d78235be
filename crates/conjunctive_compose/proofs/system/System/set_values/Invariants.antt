use Rattle.conjunctive_compose.proofs.Setting.{SetUpTo}
use Rattle.conjunctive_compose.proofs.system.System.set_values.Given as goal

abbrev pub invariant-loop-b : goal.invariant-loop-b
invariant-loop-b l = SetUpTo l.self l.initial.w l.w l.wish l.neighbours l.b-index
