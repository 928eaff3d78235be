use Rattle.std.proofs.Common.{map, ap, ◌∙◌}
use Rattle.ctl_text.proofs.Clauses.{spelled_along}
use Rattle.ctl_text.proofs.clause.spelled_over.Goals as goal

pub returns-in-Ok-clause-spelled : goal.returns-in-Ok-clause-spelled
returns-in-Ok-clause-spelled c = spelled_along _ _ _ _ _ (ap (map (λ t. t.now)) c.deref.ensures.value ∙ c.in_ok-tokens.ensures) c.in-Ok.ensures.spelled
