use Rattle.std.proofs.Common.{ℕ, ◌<◌}
use Rattle.pair_structure.specs.RoleFault.{EndsOutside}
use Rattle.pair_structure.proofs.role_fault.first_arc_outside.Given as goal

abbrev pub invariant-loop-number : goal.invariant-loop-number
invariant-loop-number l = (earlier : ℕ) → earlier < l.number → EndsOutside l.count l.arcs earlier → ⊥
