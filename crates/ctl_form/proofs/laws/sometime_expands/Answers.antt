use Rattle.ctl_form.proofs.Expand.{sometime_expands}
use Rattle.ctl_form.proofs.laws.sometime_expands.Goals as goal

pub returns : goal.returns
returns c = sometime_expands
