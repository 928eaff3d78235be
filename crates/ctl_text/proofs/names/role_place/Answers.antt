use Rattle.std.proofs.Common.{sym, ◌∙◌}
use Rattle.pair_structure.specs.Role.{RoleParts}
use Rattle.ctl_text.proofs.Named.{position-names}
use Rattle.ctl_text.proofs.names.role_place.Goals as goal

pub returns-clause-number : goal.returns-clause-number
returns-clause-number c = c.find_role.ensures.number ∙ sym (position-names (λ (r : RoleParts). r.name) c.args.roles.now c.args.name.now)
