use Rattle.pair_structure.specs.inside.LabelIndex.{IsIndexBelow}
use Rattle.pair_structure.proofs.label_index.LabelIndex.of.Given as goal

abbrev pub invariant-loop-s : goal.invariant-loop-s
invariant-loop-s l = IsIndexBelow l.s l.labels l.ordinals.items l.lists
