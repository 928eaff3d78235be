use Rattle.ctl_form.proofs.Expand.{until_expands}
use Rattle.ctl_form.proofs.laws.until_expands.Goals as goal

pub returns : goal.returns
returns c = until_expands
