use Rattle.firing_hall.proofs.Dealing.{all_passes}
use Rattle.firing_hall.proofs.firing.Hall.open.Goals as goal

pub returns-in-Ok-clause-of : goal.returns-in-Ok-clause-of
returns-in-Ok-clause-of c = all_passes c.in-Ok.opened.0 c.args.callers c.in-Ok.opened.1.items c.in-Ok.ensures.passes
