use Rattle.std.proofs.Common.{ℕ, ◌≡◌, ◌<◌, [], length, get_or}
use Rattle.waitfor_check.specs.Star.{centre_side, leaf_structure}
use Rattle.waitfor_check.specs.Steps.{reached_at}
use Rattle.waitfor_check.proofs.reached.put_reached.Given as goal

abbrev pub invariant-loop-i : goal.invariant-loop-i
invariant-loop-i l = record {
  size : length l.lists ≡ length l.initial.lists;
  done : (k : ℕ) → k < l.i → get_or l.lists k [] ≡ reached_at (leaf_structure l.system l.shape k) (centre_side l.shape k) l.to (get_or l.states k 0);
}
