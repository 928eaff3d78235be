use Rattle.conjunctive_compose.proofs.Runs.{projects_to_path}
use Rattle.conjunctive_compose.proofs.laws.projection_is_path.Goals as goal

pub returns : goal.returns
returns c = projects_to_path
