use Rattle.firing_crew.proofs.Away.{never_away as proof}
use Rattle.firing_crew.proofs.laws.never_away.Goals as goal

pub returns : goal.returns
returns c = proof
