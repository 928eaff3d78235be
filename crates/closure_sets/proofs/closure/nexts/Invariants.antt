use Rattle.std.proofs.Common.{◌≡◌, ◌<◌, ℕ, length, slice_index_or}
use Rattle.closure_sets.specs.ClosureParts.{IsNextAt}
use Rattle.closure_sets.proofs.closure.nexts.Given as goal

abbrev pub invariant-loop-member : goal.invariant-loop-member
invariant-loop-member l = record {
  long : length l.nexts.items ≡ l.member;
  each : (i : ℕ) → i < l.member → IsNextAt l.form.parts l.side i (slice_index_or l.nexts.items i 0);
}
