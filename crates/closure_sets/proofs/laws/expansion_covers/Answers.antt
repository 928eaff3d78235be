use Rattle.closure_sets.proofs.AtState
use Rattle.closure_sets.proofs.laws.expansion_covers.Goals as goal

pub returns : goal.returns
returns c = AtState.expansion_covers
