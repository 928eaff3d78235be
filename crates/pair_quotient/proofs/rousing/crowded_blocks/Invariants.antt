use Rattle.std.proofs.Common.{◌<◌, ◌≤◌, All, length}
use Rattle.pair_quotient.proofs.rousing.crowded_blocks.Given as goal

abbrev pub invariant-loop-place : goal.invariant-loop-place
invariant-loop-place l = record {
  within : All (λ b. b < length l.blocks.members) l.each.items;
  first : l.first ≤ l.place;
  crowded : All (λ b. b < length l.blocks.members) l.crowded.items;
}
