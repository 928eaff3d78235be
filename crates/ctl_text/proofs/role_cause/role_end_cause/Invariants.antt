use Rattle.std.proofs.Common.{ℕ, ◌<◌}
use Rattle.pair_structure.specs.Role.{HasArcFrom}
use Rattle.ctl_text.proofs.role_cause.role_end_cause.Given as goal

abbrev pub invariant-loop-local : goal.invariant-loop-local
invariant-loop-local l = (k : ℕ) → k < l.local → HasArcFrom l.arcs k
