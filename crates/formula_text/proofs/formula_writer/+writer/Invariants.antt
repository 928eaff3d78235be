use Rattle.std.proofs.Common.{◌+◌, ◌*◌}
use Rattle.ctl_form.specs.Form.{form_of}
use Rattle.ctl_form.specs.inside.Walking.{operators}
use Rattle.formula_text.proofs.formula_writer.«+writer».Given as goal

abbrev pub decreases-write_formula : goal.decreases-write_formula
decreases-write_formula l = 3 * operators (form_of l.f.now)

abbrev pub decreases-write_behind : goal.decreases-write_behind
decreases-write_behind l = 3 * operators (form_of l.f.now) + 1

abbrev pub decreases-write_pair : goal.decreases-write_pair
decreases-write_pair l = 3 * (operators (form_of l.f.now) + operators (form_of l.g.now)) + 2
