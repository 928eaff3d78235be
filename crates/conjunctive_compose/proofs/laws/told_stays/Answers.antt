use Rattle.conjunctive_compose.proofs.Replies.{told_stays}
use Rattle.conjunctive_compose.proofs.laws.told_stays.Goals as goal

pub returns : goal.returns
returns c = told_stays
