use Rattle.std.proofs.Common.{◌<◌, ℕ}
use Rattle.pair_structure.specs.inside.StructureCheck.{IsInRange}
use Rattle.pair_structure.proofs.move_check.first_out_of_range.Given as goal

abbrev pub invariant-loop-n : goal.invariant-loop-n
invariant-loop-n l = (k : ℕ) → k < l.n → IsInRange l.count l.moves k
