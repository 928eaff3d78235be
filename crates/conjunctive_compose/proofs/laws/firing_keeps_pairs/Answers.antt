use Rattle.conjunctive_compose.proofs.Pairs.{firing_keeps_pairs}
use Rattle.conjunctive_compose.proofs.laws.firing_keeps_pairs.Goals as goal

pub returns : goal.returns
returns c = firing_keeps_pairs
