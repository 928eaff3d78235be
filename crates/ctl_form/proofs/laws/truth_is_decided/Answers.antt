use Rattle.ctl_form.proofs.TruthDecided.{decided_truth}
use Rattle.ctl_form.proofs.laws.truth_is_decided.Goals as goal

pub returns : goal.returns
returns c = decided_truth
