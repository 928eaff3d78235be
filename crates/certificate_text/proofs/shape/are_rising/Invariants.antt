use Rattle.std.proofs.Common.{ℕ, ◌≤◌, ◌<◌, get_or}
use Rattle.pair_structure.specs.declared.side.Side.{Side}
use Rattle.interconnection.specs.Shape.{rank}
use Rattle.certificate_text.proofs.shape.are_rising.Given as goal

abbrev pub invariant-loop-i : goal.invariant-loop-i
invariant-loop-i l = (j k : ℕ) (d : ℕ × Side) → j ≤ k → k < l.i → rank (get_or l.labels j d) ≤ rank (get_or l.labels k d)
