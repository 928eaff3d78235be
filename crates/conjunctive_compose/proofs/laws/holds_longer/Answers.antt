use Rattle.conjunctive_compose.proofs.Replies.{holds_longer}
use Rattle.conjunctive_compose.proofs.laws.holds_longer.Goals as goal

pub returns : goal.returns
returns c = holds_longer
