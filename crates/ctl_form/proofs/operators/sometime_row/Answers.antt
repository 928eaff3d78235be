use Rattle.std.proofs.Common.{length, subst}
use Rattle.ctl_form.specs.Form.{truth}
use Rattle.ctl_form.specs.Row.{IsRowOf}
use Rattle.ctl_form.specs.Truth.{Holds}
use Rattle.ctl_form.proofs.operators.sometime_row.Goals as goal

pub returns : goal.returns
returns c =
    let ever = subst (λ states. IsRowOf (length states) (Holds c.args.ground.now.m.now truth) c.in_ok-ever.ever) c.states.ensures.states c.in_ok-ever.ensures in
    λ f p. c.along_row.ensures truth f ever p
