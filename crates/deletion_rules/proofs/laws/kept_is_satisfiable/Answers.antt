use Rattle.deletion_rules.proofs.Satisfied
use Rattle.deletion_rules.proofs.laws.kept_is_satisfiable.Goals as goal

pub returns : goal.returns
returns c = Satisfied.kept_is_satisfiable c.tableau_is_graph.ensures
