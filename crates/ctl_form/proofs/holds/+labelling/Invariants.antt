use Rattle.std.proofs.Common.{◌+◌, ◌*◌}
use Rattle.ctl_form.specs.Form.{form_of}
use Rattle.ctl_form.specs.inside.Walking.{operators}
use Rattle.ctl_form.proofs.holds.«+labelling».Given as goal

abbrev pub decreases-truth_row : goal.decreases-truth_row
decreases-truth_row l = 3 * operators (form_of l.f.now) + 1

abbrev pub decreases-labelled : goal.decreases-labelled
decreases-labelled l = 3 * operators (form_of l.f.now)

abbrev pub decreases-row_of_one : goal.decreases-row_of_one
decreases-row_of_one l = 3 * operators (form_of l.f.now) + 2

abbrev pub decreases-row_of_two : goal.decreases-row_of_two
decreases-row_of_two l = 3 * (operators (form_of l.f.now) + operators (form_of l.g.now)) + 2
