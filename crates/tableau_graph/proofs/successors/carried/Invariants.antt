use Rattle.closure_sets.specs.Row.{set_of}
use Rattle.tableau_graph.specs.Growing.{IsCarriedBelow}
use Rattle.tableau_graph.proofs.successors.carried.Given as goal

abbrev pub invariant-loop-member : goal.invariant-loop-member
invariant-loop-member l = IsCarriedBelow l.c (set_of l.row.words) l.side l.member (set_of l.carried.words)
