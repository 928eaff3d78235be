use Rattle.ctl_form.proofs.WalkLaws.{walk_known}
use Rattle.ctl_form.proofs.laws.walk_of_known_does_nothing.Goals as goal

pub returns : goal.returns
returns c = walk_known
