use Rattle.skeleton_extract.specs.inside.Gathered.{AreArranged}
use Rattle.skeleton_extract.proofs.arranging.arrange.Given as goal

abbrev pub invariant-loop-arc : goal.invariant-loop-arc
invariant-loop-arc l = AreArranged l.arc l.fn.lists l.lists
