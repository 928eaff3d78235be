use Rattle.std.proofs.Common.{below_more, refl}
use Rattle.ctl_text.proofs.role_cause.role_end_cause.Goals as goal

pub loop-local-preserved : goal.loop-local-preserved
loop-local-preserved c = below_more _ _ c.loop-local.invariant (c.if-not-is_left.ensures.0 refl)
