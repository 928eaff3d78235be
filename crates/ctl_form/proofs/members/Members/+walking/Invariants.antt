use Rattle.std.proofs.Common.{◌+◌, ◌*◌}
use Rattle.ctl_form.specs.Form.{form_of}
use Rattle.ctl_form.specs.inside.Walking.{operators}
use Rattle.ctl_form.proofs.members.Members.+walking.Given as goal

abbrev pub decreases-root_of : goal.decreases-root_of
decreases-root_of l = 3 * operators (form_of l.f.now)

abbrev pub decreases-root_of_until : goal.decreases-root_of_until
decreases-root_of_until l = 3 * (operators (form_of l.f.now) + operators (form_of l.g.now)) + 2

abbrev pub decreases-root_of_two : goal.decreases-root_of_two
decreases-root_of_two l = 3 * (operators (form_of l.f.now) + operators (form_of l.g.now)) + 1

abbrev pub decreases-root_of_next : goal.decreases-root_of_next
decreases-root_of_next l = 3 * operators (form_of l.f.now) + 1

abbrev pub decreases-root_of_lasting : goal.decreases-root_of_lasting
decreases-root_of_lasting l = 3 * operators (form_of l.f.now) + 2
