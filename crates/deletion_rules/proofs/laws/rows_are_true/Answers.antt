use Rattle.tableau_graph.specs.Graph.{graph_of}
use Rattle.deletion_rules.proofs.Rows
use Rattle.deletion_rules.proofs.laws.rows_are_true.Goals as goal

pub returns : goal.returns
returns c = λ t k. Rows.rows_are_true t.closure k.rules.closure (graph_of t) (c.tableau_is_graph.ensures t k)
