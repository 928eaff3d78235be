use Rattle.tableau_graph.specs.Graph.{graph_of}
use Rattle.deletion_rules.proofs.Removal
use Rattle.deletion_rules.proofs.laws.removal_keeps_met.Goals as goal

pub returns : goal.returns
returns c = λ t k whole. Removal.removal_keeps_met t.a t.b t.closure k.rules.closure (graph_of t) (c.tableau_is_graph.ensures t k) (c.tableau_covers.ensures t k whole)
