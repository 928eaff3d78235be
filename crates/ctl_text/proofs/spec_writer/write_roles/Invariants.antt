use Rattle.std.proofs.Common.{◌≡◌, ◌++◌, take}
use Rattle.std.specs.List.{flat_map}
use Rattle.ctl_text.specs.SpecText.{role_text}
use Rattle.ctl_text.proofs.spec_writer.write_roles.Given as goal

abbrev pub invariant-loop-role : goal.invariant-loop-role
invariant-loop-role l = l.into.items ≡ l.initial.into.items ++ flat_map role_text (take l.role-index l.roles)
