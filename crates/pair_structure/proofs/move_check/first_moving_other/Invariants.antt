use Rattle.std.proofs.Common.{◌<◌, ℕ}
use Rattle.pair_structure.specs.inside.StructureCheck.{KeepsOther}
use Rattle.pair_structure.proofs.move_check.first_moving_other.Given as goal

abbrev pub invariant-loop-n : goal.invariant-loop-n
invariant-loop-n l = (k : ℕ) → k < l.n → KeepsOther l.states l.moves k
