use Rattle.tableau_graph.specs.Graph.{graph_of}
use Rattle.deletion_rules.proofs.Removal
use Rattle.deletion_rules.proofs.laws.support_rises.Goals as goal

pub returns : goal.returns
returns c = λ t. Removal.support_rises t.closure (graph_of t)
