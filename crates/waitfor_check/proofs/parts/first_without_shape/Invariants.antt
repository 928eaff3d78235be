use Rattle.std.proofs.Common.{ℕ, ◌<◌}
use Rattle.waitfor_check.specs.Parts.{HasShapesOf}
use Rattle.waitfor_check.proofs.parts.first_without_shape.Given as goal

abbrev pub invariant-loop-k : goal.invariant-loop-k
invariant-loop-k l = (k : ℕ) → k < l.k → HasShapesOf l.system l.certificate k
