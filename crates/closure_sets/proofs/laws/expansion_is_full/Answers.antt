use Rattle.closure_sets.proofs.Labels
use Rattle.closure_sets.proofs.laws.expansion_is_full.Goals as goal

pub returns : goal.returns
returns c = Labels.expansion_is_full
