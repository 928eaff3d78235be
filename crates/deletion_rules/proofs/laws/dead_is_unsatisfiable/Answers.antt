use Rattle.tableau_graph.specs.Graph.{graph_of}
use Rattle.deletion_rules.proofs.Removal
use Rattle.deletion_rules.proofs.laws.dead_is_unsatisfiable.Goals as goal

pub returns : goal.returns
returns c = λ t k whole. Removal.dead_is_unsatisfiable t.a t.b t.closure k.rules.closure (graph_of t) (c.tableau_is_graph.ensures t k) 0 (c.tableau_root_covers.ensures t k whole)
