use Rattle.std.proofs.Common.{true, false}
use Rattle.ctl_form.proofs.Expand.{until_expands}
use Rattle.ctl_form.proofs.laws.each_until_expands.Goals as goal

pub returns : goal.returns
returns c = λ m on. until_expands m on true false
