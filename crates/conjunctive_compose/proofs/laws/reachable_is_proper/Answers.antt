use Rattle.conjunctive_compose.proofs.Runs.{reachable_is_proper}
use Rattle.conjunctive_compose.proofs.laws.reachable_is_proper.Goals as goal

pub returns : goal.returns
returns c = reachable_is_proper
