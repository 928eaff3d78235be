use Rattle.std.proofs.Common.{◌<◌, ℕ}
use Rattle.pair_structure.specs.inside.StructureCheck.{RisesAt}
use Rattle.pair_structure.proofs.move_check.first_not_rising.Given as goal

abbrev pub invariant-loop-n : goal.invariant-loop-n
invariant-loop-n l = (k : ℕ) → k < l.n → RisesAt l.moves k
