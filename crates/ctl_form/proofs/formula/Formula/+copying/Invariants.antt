use Rattle.std.proofs.Common.{◌+◌, ◌*◌}
use Rattle.ctl_form.specs.Form.{form_of}
use Rattle.ctl_form.specs.inside.Walking.{operators}
use Rattle.ctl_form.proofs.formula.Formula.«+copying».Given as goal

abbrev pub decreases-copy : goal.decreases-copy
decreases-copy l = 3 * operators (form_of l.self.now)

abbrev pub decreases-boxed_copy : goal.decreases-boxed_copy
decreases-boxed_copy l = 3 * operators (form_of l.self.now) + 1

abbrev pub decreases-copies_of_both : goal.decreases-copies_of_both
decreases-copies_of_both l = 3 * (operators (form_of l.f.now) + operators (form_of l.g.now)) + 2
