use Rattle.tableau_graph.proofs.Covering.{tableau_covers}
use Rattle.tableau_graph.proofs.laws.tableau_covers.Goals as goal

pub returns : goal.returns
returns c = tableau_covers c.expansion_covers.ensures
