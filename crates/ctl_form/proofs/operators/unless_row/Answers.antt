use Rattle.std.proofs.lemmas.Result.{IfOk-weaker}
use Rattle.ctl_form.proofs.UntilRows.{IsRowOf-weak}
use Rattle.ctl_form.proofs.operators.unless_row.Goals as goal

pub returns : goal.returns
returns c = IfOk-weaker c.not-3.result _ _ (λ row h. IsRowOf-weak c.args.ground.now.m.now c.states-states.ensures.goes_on c.args.all c.args.p.now c.args.q.now c.in_ok-not_p.not_p c.in_ok-not_q.not_q c.in_ok-neither.neither c.in_ok-fails.fails row c.requires.p_long c.requires.q_long c.in_ok-not_p.ensures c.in_ok-not_q.ensures c.in_ok-neither.ensures c.in_ok-fails.ensures h) c.not-3.ensures
