use Rattle.conjunctive_compose.proofs.Peelings.{first_enabled}
use Rattle.conjunctive_compose.proofs.laws.peel_order_enables.Goals as goal

pub returns : goal.returns
returns c = first_enabled
