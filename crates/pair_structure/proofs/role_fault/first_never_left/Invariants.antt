use Rattle.std.proofs.Common.{ℕ, ◌<◌}
use Rattle.pair_structure.specs.Role.{HasArcFrom}
use Rattle.pair_structure.proofs.role_fault.first_never_left.Given as goal

abbrev pub invariant-loop-local : goal.invariant-loop-local
invariant-loop-local l = (earlier : ℕ) → earlier < l.local → HasArcFrom l.arcs earlier
