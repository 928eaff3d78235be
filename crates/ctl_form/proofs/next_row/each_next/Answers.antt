use Rattle.std.proofs.lemmas.Result.{IfOk-weaker}
use Rattle.ctl_form.proofs.NextRows.{IsRowOf-each}
use Rattle.ctl_form.proofs.next_row.each_next.Goals as goal

pub returns : goal.returns
returns c = IfOk-weaker c.not-2.result _ _ (λ row h. IsRowOf-each c.args.m.now c.requires.goes_on c.args.side c.args.p.now c.in_ok-not.field-0 c.in_ok-fails.fails row c.requires.p_long c.in_ok-not.ensures c.in_ok-fails.ensures h) c.not-2.ensures
