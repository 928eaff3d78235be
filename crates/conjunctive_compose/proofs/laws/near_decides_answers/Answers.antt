use Rattle.conjunctive_compose.proofs.Near.{near_decides_answers}
use Rattle.conjunctive_compose.proofs.laws.near_decides_answers.Goals as goal

pub returns : goal.returns
returns c = near_decides_answers
