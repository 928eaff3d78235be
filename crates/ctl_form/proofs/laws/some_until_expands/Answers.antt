use Rattle.std.proofs.Common.{false}
use Rattle.ctl_form.proofs.Expand.{until_expands}
use Rattle.ctl_form.proofs.laws.some_until_expands.Goals as goal

pub returns : goal.returns
returns c = λ m on. until_expands m on false false
