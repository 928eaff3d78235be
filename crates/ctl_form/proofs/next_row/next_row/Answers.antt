use Rattle.std.proofs.Common.{true, false}
use Rattle.std.proofs.lemmas.Result.{IfOk-weaker}
use Rattle.ctl_form.specs.Truth.{Holds}
use Rattle.ctl_form.proofs.UntilRows.{IsRowOf-next}
use Rattle.ctl_form.proofs.next_row.next_row.Goals as goal

pub returns-then-all : goal.returns-then-all
returns-then-all c = λ f p. rw c.if-all.true (IfOk-weaker c.each_next.result _ _ (λ row h. IsRowOf-next c.args.m.now c.requires.goes_on true c.args.side (Holds c.args.m.now f) c.args.p.now row p h) c.each_next.ensures)

pub returns-else-all : goal.returns-else-all
returns-else-all c = λ f p. rw c.if-all.false (IfOk-weaker c.some_next.result _ _ (λ row h. IsRowOf-next c.args.m.now c.requires.goes_on false c.args.side (Holds c.args.m.now f) c.args.p.now row p h) c.some_next.ensures)
