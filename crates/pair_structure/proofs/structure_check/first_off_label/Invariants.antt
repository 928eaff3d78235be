use Rattle.std.proofs.Common.{◌<◌, ℕ}
use Rattle.pair_structure.specs.inside.StructureCheck.{IsLabelBelow}
use Rattle.pair_structure.proofs.structure_check.first_off_label.Given as goal

abbrev pub invariant-loop-s : goal.invariant-loop-s
invariant-loop-s l = (k : ℕ) → k < l.s → IsLabelBelow l.a l.b l.states k
