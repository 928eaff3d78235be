use Rattle.std.proofs.Common.{◌≡◌, ◌++◌, map, take}
use Rattle.interconnection.specs.Shape.{rank}
use Rattle.certificate_text.proofs.key.push_ranks.Given as goal

abbrev pub invariant-loop-leaf : goal.invariant-loop-leaf
invariant-loop-leaf l = l.key.items ≡ l.initial.key.items ++ map rank (take l.leaf-index l.leaves)
