use Rattle.skeleton_tool.proofs.OneSystem.{one_system}
use Rattle.skeleton_tool.proofs.laws.one_system.Goals as goal

pub returns : goal.returns
returns c = one_system
