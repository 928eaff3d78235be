use Rattle.ctl_form.proofs.Negation.{normal_says}
use Rattle.ctl_form.proofs.laws.normal_means.Goals as goal

pub returns : goal.returns
returns c = normal_says
