use Rattle.std.proofs.Common.{length, subst}
use Rattle.ctl_form.specs.Form.{falsity}
use Rattle.ctl_form.specs.Row.{IsRowOf}
use Rattle.ctl_form.specs.Truth.{Holds}
use Rattle.ctl_form.proofs.operators.always_row.Goals as goal

pub returns : goal.returns
returns c =
    let never = subst (λ states. IsRowOf (length states) (Holds c.args.ground.now.m.now falsity) c.in_ok-never.never) c.states.ensures.states c.in_ok-never.ensures in
    λ f p. c.along_row.ensures f falsity p never
