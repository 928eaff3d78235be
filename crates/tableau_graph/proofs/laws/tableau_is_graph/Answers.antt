use Rattle.tableau_graph.proofs.Expanded.{tableau_is_graph}
use Rattle.tableau_graph.proofs.laws.tableau_is_graph.Goals as goal

pub returns : goal.returns
returns c = tableau_is_graph c.expansion_is_full.ensures c.one_sided_is_full.ensures
