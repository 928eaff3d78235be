use Rattle.conjunctive_compose.proofs.Pairs.{one_pair}
use Rattle.conjunctive_compose.proofs.laws.one_pair_state.Goals as goal

pub returns : goal.returns
returns c = one_pair
