use Rattle.skeleton_extract.proofs.Moving.{moves_back}
use Rattle.skeleton_extract.proofs.laws.moves_back.Goals as goal

pub returns : goal.returns
returns c = moves_back
