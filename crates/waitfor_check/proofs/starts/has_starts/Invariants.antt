use Rattle.std.proofs.Common.{ℕ, ◌<◌, length, get_or}
use Rattle.waitfor_check.specs.Star.{leaf_at}
use Rattle.waitfor_check.specs.inside.Begins.{HasAllBegins, begins_at}
use Rattle.waitfor_check.specs.inside.Walk.{HasRoom}
use Rattle.waitfor_check.proofs.starts.has_starts.Given as goal

abbrev pub invariant-loop-i : goal.invariant-loop-i
invariant-loop-i l = record {
  room : HasRoom (length l.star.shape.leaves) l.room;
  all : (k : ℕ) → k < l.i → HasAllBegins l.system l.star l.begins (get_or (begins_at l.begins (leaf_at l.star.shape 0).0) k 0);
}
