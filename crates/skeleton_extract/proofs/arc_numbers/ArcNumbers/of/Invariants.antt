use Rattle.skeleton_extract.specs.inside.ArcNumbers.{IsNumberingBelow}
use Rattle.skeleton_extract.proofs.arc_numbers.ArcNumbers.of.Given as goal

abbrev pub invariant-loop-n : goal.invariant-loop-n
invariant-loop-n l = IsNumberingBelow l.n l.rows l.arcs
