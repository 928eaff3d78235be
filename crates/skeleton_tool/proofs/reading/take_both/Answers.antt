use Rattle.skeleton_tool.proofs.BothTaken.{stops_at_solution}
use Rattle.skeleton_tool.proofs.reading.take_both.Goals as goal

pub returns-in-Err-clause-stopped : goal.returns-in-Err-clause-stopped
returns-in-Err-clause-stopped g c = stops_at_solution _ _ _ _ _ _ _ c.in_ok-spec.spec c.args.spec.now c.args.sol.now _ c.in-Err.stop c.in_ok-spec.ensures.read c.take_spec.ensures.kept c.in-Err.ensures.stopped
