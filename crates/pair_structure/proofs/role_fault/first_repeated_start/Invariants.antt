use Rattle.std.proofs.Common.{ℕ, ◌<◌}
use Rattle.pair_structure.specs.RoleFault.{HasEarlierStart}
use Rattle.pair_structure.proofs.role_fault.first_repeated_start.Given as goal

abbrev pub invariant-loop-place : goal.invariant-loop-place
invariant-loop-place l = (earlier : ℕ) → earlier < l.place → HasEarlierStart l.starts earlier → ⊥
