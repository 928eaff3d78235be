use Rattle.std.proofs.Common.{ℕ, ◌<◌}
use Rattle.big_system.specs.Graphs.{IsWidth}
use Rattle.big_system.proofs.pairs.width_of.Given as goal

abbrev pub invariant-loop-width : goal.invariant-loop-width
invariant-loop-width l = (w : ℕ) → w < l.width → IsWidth l.count w → ⊥
