use Rattle.waitfor_check.proofs.GoingOn.{accepted_goes_on}
use Rattle.waitfor_check.proofs.laws.accepted_goes_on.Goals as goal

pub returns : goal.returns
returns c = accepted_goes_on
