use Rattle.tableau_graph.proofs.Expanded.{tableau_starts}
use Rattle.tableau_graph.proofs.laws.tableau_starts.Goals as goal

pub returns : goal.returns
returns c = tableau_starts
