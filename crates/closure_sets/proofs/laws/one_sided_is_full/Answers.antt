use Rattle.closure_sets.proofs.Labels
use Rattle.closure_sets.proofs.laws.one_sided_is_full.Goals as goal

pub returns : goal.returns
returns c = Labels.one_sided_is_full
