use Rattle.std.proofs.Common.{ℕ, ◌<◌}
use Rattle.pair_structure.specs.RoleFault.{HasEarlierEnds}
use Rattle.pair_structure.proofs.role_fault.first_repeated_arc.Given as goal

abbrev pub invariant-loop-number : goal.invariant-loop-number
invariant-loop-number l = (earlier : ℕ) → earlier < l.number → HasEarlierEnds l.arcs earlier → ⊥
