use Rattle.tableau_graph.specs.Growing.{AreNextNodes}
use Rattle.tableau_graph.proofs.successors.next_nodes.Given as goal

abbrev pub invariant-loop-member : goal.invariant-loop-member
invariant-loop-member l = AreNextNodes l.c l.node l.member l.nodes.items
