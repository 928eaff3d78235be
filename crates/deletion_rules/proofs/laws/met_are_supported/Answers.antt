use Rattle.tableau_graph.specs.Graph.{graph_of}
use Rattle.deletion_rules.proofs.Survive
use Rattle.deletion_rules.proofs.laws.met_are_supported.Goals as goal

pub returns : goal.returns
returns c = λ t k whole. Survive.met_are_supported t.a t.b t.closure k.rules.closure (graph_of t) (c.tableau_is_graph.ensures t k) (c.tableau_covers.ensures t k whole)
