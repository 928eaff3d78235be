use Rattle.std.proofs.Common.{true}
use Rattle.ctl_form.proofs.Expand.{until_expands}
use Rattle.ctl_form.proofs.laws.each_unless_expands.Goals as goal

pub returns : goal.returns
returns c = λ m on. until_expands m on true true
