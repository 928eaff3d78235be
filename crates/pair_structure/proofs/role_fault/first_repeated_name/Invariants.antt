use Rattle.std.proofs.Common.{ℕ, ◌<◌}
use Rattle.pair_structure.specs.RoleFault.{HasEarlierName}
use Rattle.pair_structure.proofs.role_fault.first_repeated_name.Given as goal

abbrev pub invariant-loop-local : goal.invariant-loop-local
invariant-loop-local l = (earlier : ℕ) → earlier < l.local → HasEarlierName l.locals earlier → ⊥
