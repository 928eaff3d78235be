use Rattle.std.proofs.Common.{◌+◌, ◌*◌}
use Rattle.ctl_form.specs.Form.{form_of}
use Rattle.ctl_form.specs.inside.Walking.{operators}
use Rattle.ctl_form.proofs.code.«+coding».Given as goal

abbrev pub decreases-push_code : goal.decreases-push_code
decreases-push_code l = 2 * operators (form_of l.f.now)

abbrev pub decreases-push_one : goal.decreases-push_one
decreases-push_one l = 2 * operators (form_of l.f.now) + 1

abbrev pub decreases-push_both : goal.decreases-push_both
decreases-push_both l = 2 * (operators (form_of l.f.now) + operators (form_of l.g.now)) + 1
