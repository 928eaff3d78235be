use Rattle.conjunctive_compose.proofs.Looks.{projection_counts}
use Rattle.conjunctive_compose.proofs.laws.projection_counts.Goals as goal

pub returns : goal.returns
returns c = projection_counts
