use Rattle.std.proofs.Common.{List, subst}
use Rattle.text_cause.specs.Answers.{IsBadBy}
use Rattle.text_cause.specs.Cause.{IsFree}
use Rattle.certificate_text.specs.Cause.{BarsStar}
use Rattle.certificate_text.specs.declared.item.Label.{Label}
use Rattle.certificate_text.specs.inside.Saying.{names_of}
use Rattle.certificate_text.proofs.take.with_star.Goals as goal

pub returns-in-Ok-clause-free : goal.returns-in-Ok-clause-free
returns-in-Ok-clause-free c = subst (λ (labels : List Label). IsFree (BarsStar c.args.spec.now c.args.system.now c.args.made c.args.role.now (names_of labels))) c.deref.ensures.value c.in-Ok.ensures.free

pub returns-in-Err-clause-refused : goal.returns-in-Err-clause-refused
returns-in-Err-clause-refused c =
    subst (λ (labels : List Label). IsBadBy (BarsStar c.args.spec.now c.args.system.now c.args.made c.args.role.now (names_of labels)) c.in-Err.fault) c.deref.ensures.value c.in-Err.ensures.refused
