use Rattle.ctl_text.proofs.Options.{some_as, none_as}
use Rattle.ctl_text.proofs.CauseRows.{use_then, use_none}
use Rattle.ctl_text.proofs.process_cause.process_cause.Goals as goal

pub returns-in-Some-clause-some : goal.returns-in-Some-clause-some
returns-in-Some-clause-some c =
    let begin = rw c.in-Some.ensures.role at c.begin_cause.ensures.some in
    some_as _ _ _ (λ cause least. use_then _ _ _ cause c.in-Some.ensures.there least) begin

pub returns-in-Some-clause-none : goal.returns-in-Some-clause-none
returns-in-Some-clause-none c =
    let begin = rw c.in-Some.ensures.role at c.begin_cause.ensures.none in
    none_as _ _ _ (λ free. use_none _ _ _ c.in-Some.ensures.there free) begin
