use Rattle.conjunctive_compose.proofs.Neighbours.{AllSo}
use Rattle.conjunctive_compose.proofs.system.System.first_blocker.Given as goal

abbrev pub invariant-loop-b : goal.invariant-loop-b
invariant-loop-b l = AllSo l.self l.w l.wish.arc l.neighbours l.b-index
