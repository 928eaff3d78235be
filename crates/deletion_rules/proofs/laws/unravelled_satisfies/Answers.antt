use Rattle.deletion_rules.proofs.Satisfied
use Rattle.deletion_rules.proofs.laws.unravelled_satisfies.Goals as goal

pub returns : goal.returns
returns c = Satisfied.unravelled_satisfies c.tableau_is_graph.ensures
