use Rattle.std.proofs.Common.{ℕ, ◌<◌, length, get_or}
use Rattle.waitfor_check.specs.Star.{leaf_structure}
use Rattle.certificate_text.proofs.member.are_in_range.Given as goal

abbrev pub invariant-loop-i : goal.invariant-loop-i
invariant-loop-i l = (k : ℕ) → k < l.i → get_or l.states k 0 < length (leaf_structure l.system l.shape k).states
