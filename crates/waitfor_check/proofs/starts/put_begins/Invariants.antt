use Rattle.std.proofs.Common.{ℕ, ◌≡◌, ◌<◌, [], length, get_or}
use Rattle.waitfor_check.specs.inside.Begins.{leaf_begins}
use Rattle.waitfor_check.proofs.starts.put_begins.Given as goal

abbrev pub invariant-loop-i : goal.invariant-loop-i
invariant-loop-i l = record {
  size : length l.lists ≡ length l.initial.lists;
  done : (k : ℕ) → k < l.i → get_or l.lists k [] ≡ leaf_begins l.system l.shape l.begins l.local k;
}
