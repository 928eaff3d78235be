use Rattle.waitfor_check.specs.inside.ShapeKeys.{IsReached}
use Rattle.waitfor_check.proofs.shape_index.walk_shapes.Given as goal

abbrev pub invariant-loop : goal.invariant-loop
invariant-loop l = IsReached l.network l.k l.keys l.shape l.counter
