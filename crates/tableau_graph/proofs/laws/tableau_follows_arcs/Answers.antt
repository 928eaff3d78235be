use Rattle.tableau_graph.proofs.Expanded.{tableau_follows_arcs}
use Rattle.tableau_graph.proofs.laws.tableau_follows_arcs.Goals as goal

pub returns : goal.returns
returns c = tableau_follows_arcs
