use Rattle.std.proofs.Common.{◌≡◌, All, take}
use Rattle.pair_structure.specs.Role.{IsRole}
use Rattle.interconnection.proofs.copies.role_copies.Given as goal

abbrev pub invariant-loop-role : goal.invariant-loop-role
invariant-loop-role l = (l.copies.items ≡ take l.role-index l.roles) × All IsRole (take l.role-index l.roles)
