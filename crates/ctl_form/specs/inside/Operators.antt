-- The operators of a formula, apart from its parts.
use Rattle.ctl_form.specs.Form.{Form, neg, both, either, implies, next, always, sometime, until}
use Rattle.ctl_form.specs.declared.operators.OneOperator.{OneOperator}
use Rattle.ctl_form.specs.declared.operators.OneOperator.TheVariants.{Not, Next, Always, Sometime}
use Rattle.ctl_form.specs.declared.operators.TwoOperator.{TwoOperator}
use Rattle.ctl_form.specs.declared.operators.TwoOperator.TheVariants.{And, Or, Implies, Until}

abbrev pub one_form : OneOperator → Form → Form
one_form Not f = neg f
one_form (Next all side) f = next all side f
one_form (Always all) f = always all f
one_form (Sometime all) f = sometime all f

abbrev pub two_form : TwoOperator → Form → Form → Form
two_form And f g = both f g
two_form Or f g = either f g
two_form Implies f g = implies f g
two_form (Until all weak) f g = until all weak f g
