use Rattle.conjunctive_compose.proofs.Looks.{equal_counts_equal_locals}
use Rattle.conjunctive_compose.proofs.laws.equal_counts_equal_locals.Goals as goal

pub returns : goal.returns
returns c = equal_counts_equal_locals
