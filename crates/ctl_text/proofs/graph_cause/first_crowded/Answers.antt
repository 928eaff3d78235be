use Rattle.std.proofs.Common.{refl}
use Rattle.ctl_text.proofs.Options.{untrue-false}
use Rattle.ctl_text.proofs.Crowded.{high_crowded}
use Rattle.ctl_text.proofs.graph_cause.first_crowded.Goals as goal

pub returns-then-is_full-2-clause-some : goal.returns-then-is_full-2-clause-some
returns-then-is_full-2-clause-some c = high_crowded _ _ _ _ (untrue-false c.if-is_full.ensures.1) (c.if-is_full-2.ensures.0 refl)
