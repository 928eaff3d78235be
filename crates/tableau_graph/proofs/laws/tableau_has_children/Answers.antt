use Rattle.tableau_graph.proofs.Expanded.{tableau_has_children}
use Rattle.tableau_graph.proofs.laws.tableau_has_children.Goals as goal

pub returns : goal.returns
returns c = tableau_has_children
