use Rattle.std.proofs.Common.{ℕ, ◌≡◌, ◌<◌, length, slice_index, bit_and}
use Rattle.ctl_form.proofs.bit_row.met.Given as goal

abbrev pub invariant-loop-place : goal.invariant-loop-place
invariant-loop-place l = record {
  long : length l.made.items ≡ l.place;
  each : (k : ℕ) → k < l.place → slice_index l.made.items k ≡ bit_and (slice_index l.words k) (slice_index l.others k);
}
