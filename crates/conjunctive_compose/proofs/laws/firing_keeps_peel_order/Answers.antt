use Rattle.conjunctive_compose.proofs.PeelOrders.{peel_kept}
use Rattle.conjunctive_compose.proofs.laws.firing_keeps_peel_order.Goals as goal

pub returns : goal.returns
returns c = peel_kept
