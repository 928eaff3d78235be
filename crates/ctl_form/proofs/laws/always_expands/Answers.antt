use Rattle.ctl_form.proofs.Expand.{always_expands}
use Rattle.ctl_form.proofs.laws.always_expands.Goals as goal

pub returns : goal.returns
returns c = always_expands
