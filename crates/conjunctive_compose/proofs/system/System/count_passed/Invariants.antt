use Rattle.conjunctive_compose.specs.inside.Peeling.{ArePast}
use Rattle.conjunctive_compose.proofs.system.System.count_passed.Given as goal

abbrev pub invariant-loop-n : goal.invariant-loop-n
invariant-loop-n l = ArePast l.self l.w l.peeling.marks l.wish.arc l.neighbours l.n
