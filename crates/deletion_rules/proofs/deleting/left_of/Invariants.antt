use Rattle.tableau_graph.specs.Graph.{graph_of}
use Rattle.deletion_rules.specs.Marks.{lists_of, lives_of, AreLeft}
use Rattle.deletion_rules.proofs.deleting.left_of.Given as goal

abbrev pub invariant-loop-n : goal.invariant-loop-n
invariant-loop-n l = AreLeft l.t.closure (graph_of l.t) (lives_of l.lives) (lists_of l.table) l.n l.left.items
