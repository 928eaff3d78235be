use Rattle.std.specs.List.{AllAdjacentBelow}
use Rattle.waitfor_check.specs.Fitting.{IsLower}
use Rattle.waitfor_check.proofs.fitting.members_rise.Given as goal

abbrev pub invariant-loop-m : goal.invariant-loop-m
invariant-loop-m l = AllAdjacentBelow IsLower l.members l.m
