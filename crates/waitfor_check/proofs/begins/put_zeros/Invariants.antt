use Rattle.std.proofs.Common.{ℕ, ◌≡◌, ◌<◌, ◌∷◌, [], length, get_or}
use Rattle.waitfor_check.proofs.begins.put_zeros.Given as goal

abbrev pub invariant-loop-i : goal.invariant-loop-i
invariant-loop-i l = record {
  size : length l.lists ≡ length l.initial.lists;
  done : (k : ℕ) → k < l.i → get_or l.lists k [] ≡ 0 ∷ [];
}
