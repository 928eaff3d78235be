use Rattle.std.proofs.Common.{true, false}
use Rattle.std.proofs.lemmas.Result.{IfOk-weaker}
use Rattle.ctl_form.specs.Truth.{Holds}
use Rattle.ctl_form.proofs.UntilRows.{IsRowOf-along}
use Rattle.ctl_form.proofs.operators.along_row.Goals as goal

pub returns-then-weak : goal.returns-then-weak
returns-then-weak c = λ f g p q. rw c.if-weak.true (IfOk-weaker c.unless_row.result _ _ (λ row h. IsRowOf-along c.args.ground.now.m.now c.states-states.ensures.goes_on c.args.all true (Holds c.args.ground.now.m.now f) (Holds c.args.ground.now.m.now g) c.args.p.now c.args.q.now row p q h) c.unless_row.ensures)

pub returns-else-weak : goal.returns-else-weak
returns-else-weak c = λ f g p q. rw c.if-weak.false (IfOk-weaker c.until_row.result _ _ (λ row h. IsRowOf-along c.args.ground.now.m.now c.states-states.ensures.goes_on c.args.all false (Holds c.args.ground.now.m.now f) (Holds c.args.ground.now.m.now g) c.args.p.now c.args.q.now row p q h) c.until_row.ensures)
