use Rattle.std.specs.List.{AllAdjacentBelow}
use Rattle.waitfor_check.specs.Fitting.{IsLower}
use Rattle.waitfor_check.proofs.fitting.all_rise.Given as goal

abbrev pub invariant-loop-i : goal.invariant-loop-i
invariant-loop-i l = AllAdjacentBelow IsLower l.lists l.i
