use Rattle.std.proofs.Common.{◌≡◌, ◌++◌, map, take}
use Rattle.interconnection.specs.Shape.{rank}
use Rattle.waitfor_check.proofs.shape_index.push_ranks.Given as goal

abbrev pub invariant-loop-leaf : goal.invariant-loop-leaf
invariant-loop-leaf l = l.key ≡ l.initial.key ++ map rank (take l.leaf-index l.leaves)
