use Rattle.tableau_graph.specs.Graph.{graph_of}
use Rattle.deletion_rules.specs.Marks.{lists_of, lives_of, AreTable}
use Rattle.deletion_rules.proofs.table.table_of.Given as goal

abbrev pub invariant-loop-member : goal.invariant-loop-member
invariant-loop-member l = AreTable l.t.closure (graph_of l.t) (lives_of l.lives) l.member (lists_of l.table.items)
