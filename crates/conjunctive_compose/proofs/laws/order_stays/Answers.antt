use Rattle.conjunctive_compose.proofs.Replies.{order_stays}
use Rattle.conjunctive_compose.proofs.laws.order_stays.Goals as goal

pub returns : goal.returns
returns c = order_stays
