use Rattle.interconnection.specs.Shape.{IsShapeOf}
use Rattle.call_tests.proofs.networks.shapes_of.Given as goal

abbrev pub invariant-loop : goal.invariant-loop
invariant-loop l = IsShapeOf l.network l.k l.shape
