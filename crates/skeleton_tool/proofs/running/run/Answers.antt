use Rattle.skeleton_tool.proofs.SystemLaws.{has_structures}
use Rattle.skeleton_tool.proofs.running.run.Goals as goal

pub system_of-requires : goal.system_of-requires
system_of-requires g c = has_structures _ _ _ _ c.in_ok-spec.ensures.over c.in_ok-spec.ensures.sol
