use Rattle.tableau_graph.proofs.Covering.{tableau_root_covers}
use Rattle.tableau_graph.proofs.laws.tableau_root_covers.Goals as goal

pub returns : goal.returns
returns c = tableau_root_covers c.expansion_covers.ensures
