use Rattle.conjunctive_compose.proofs.Replies.{holds_within}
use Rattle.conjunctive_compose.proofs.laws.holds_within.Goals as goal

pub returns : goal.returns
returns c = holds_within
