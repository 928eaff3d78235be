use Rattle.std.proofs.Common.{true, false}
use Rattle.ctl_form.proofs.Expand.{until_expands}
use Rattle.ctl_form.proofs.laws.some_unless_expands.Goals as goal

pub returns : goal.returns
returns c = λ m on. until_expands m on false true
