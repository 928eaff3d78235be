use Rattle.std.proofs.Common.{below_more, refl}
use Rattle.pair_structure.proofs.role_fault.first_never_left.Goals as goal

pub loop-local-preserved : goal.loop-local-preserved
loop-local-preserved c = below_more _ _ c.loop-local.invariant (c.if-not-is_left.ensures.0 refl)
