use Rattle.skeleton_extract.proofs.Moving.{command_moves}
use Rattle.skeleton_extract.proofs.laws.command_moves.Goals as goal

pub returns : goal.returns
returns c = command_moves
