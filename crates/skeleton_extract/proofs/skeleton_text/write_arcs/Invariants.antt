use Rattle.std.proofs.Common.{◌≡◌, ◌++◌, take}
use Rattle.std.specs.List.{flat_map, zip}
use Rattle.skeleton_extract.specs.SkeletonText.{arc_text}
use Rattle.skeleton_extract.proofs.skeleton_text.write_arcs.Given as goal

abbrev pub invariant-loop-n : goal.invariant-loop-n
invariant-loop-n l = l.into.items ≡ l.initial.into.items ++ flat_map (arc_text l.own l.other) (take l.n (zip l.arcs l.lists))
