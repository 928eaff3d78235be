use Rattle.conjunctive_compose.proofs.Starts.{start_is_proper}
use Rattle.conjunctive_compose.proofs.laws.start_is_proper.Goals as goal

pub returns : goal.returns
returns c = start_is_proper
