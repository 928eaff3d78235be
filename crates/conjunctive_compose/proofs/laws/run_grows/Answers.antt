use Rattle.conjunctive_compose.proofs.Runs.{run_grows}
use Rattle.conjunctive_compose.proofs.laws.run_grows.Goals as goal

pub returns : goal.returns
returns c = run_grows
