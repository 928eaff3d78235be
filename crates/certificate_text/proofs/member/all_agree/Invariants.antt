use Rattle.std.proofs.Common.{ℕ, ◌≡◌, ◌<◌}
use Rattle.waitfor_check.specs.Star.{centre_at}
use Rattle.certificate_text.proofs.member.all_agree.Given as goal

abbrev pub invariant-loop-i : goal.invariant-loop-i
invariant-loop-i l = (k : ℕ) → k < l.i → centre_at l.system l.shape l.states k ≡ centre_at l.system l.shape l.states 0
