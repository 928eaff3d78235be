use Rattle.skeleton_extract.proofs.OnePairState.{one_pair_state}
use Rattle.skeleton_extract.proofs.laws.one_pair_state.Goals as goal

pub returns : goal.returns
returns c = one_pair_state
