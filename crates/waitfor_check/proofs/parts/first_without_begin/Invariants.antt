use Rattle.std.proofs.Common.{ℕ, ◌<◌}
use Rattle.waitfor_check.specs.Accepted.{HasStarts}
use Rattle.waitfor_check.specs.Parts.{star_at}
use Rattle.waitfor_check.proofs.parts.first_without_begin.Given as goal

abbrev pub invariant-loop-i : goal.invariant-loop-i
invariant-loop-i l = (star : ℕ) → star < l.i → HasStarts l.system (star_at l.stars star)
