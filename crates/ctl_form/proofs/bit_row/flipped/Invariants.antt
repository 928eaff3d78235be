use Rattle.std.proofs.Common.{ℕ, ◌≡◌, ◌<◌, ◌-◌, length, slice_index}
use Rattle.std.specs.Int.{bit_at}
use Rattle.ctl_form.proofs.bit_row.flipped.Given as goal

abbrev pub invariant-loop-word : goal.invariant-loop-word
invariant-loop-word l = record {
  long : length l.made.items ≡ l.word-index;
  each : (k bit : ℕ) → k < l.word-index → bit < 64 → bit_at (slice_index l.made.items k) bit ≡ 1 - bit_at (slice_index l.words k) bit;
}
