use Rattle.std.proofs.Common.{refl}
use Rattle.ctl_text.proofs.Options.{none_as}
use Rattle.ctl_text.proofs.CauseRows.{use_none}
use Rattle.ctl_text.proofs.graph_cause.kind_cause.Goals as goal

pub returns-clause-none : goal.returns-clause-none
returns-clause-none c = none_as _ _ _ (λ free. use_none _ _ _ (c.if-not-has_role.ensures.0 refl) (use_none _ _ _ (c.if-not-has_role-2.ensures.0 refl) free)) c.kind_name_cause.ensures.none
