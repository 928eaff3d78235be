use Rattle.conjunctive_compose.proofs.Looks.{look_shows_projection}
use Rattle.conjunctive_compose.proofs.laws.look_shows_projection.Goals as goal

pub returns : goal.returns
returns c = look_shows_projection
