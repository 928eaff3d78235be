use Rattle.std.proofs.Common.{ℕ, ◌≡◌, ◌<◌, length, slice_index}
use Rattle.pair_quotient.specs.inside.Refining.{AreBlocks, IsElected}
use Rattle.pair_quotient.proofs.electing.elect_each.Given as goal

abbrev pub invariant-loop-block : goal.invariant-loop-block
invariant-loop-block l = record {
  blocks : AreBlocks (length l.settled) l.blocks.classes.items l.blocks.leaders.items l.blocks.members;
  classes : l.blocks.classes.items ≡ l.initial.blocks.classes.items;
  members : l.blocks.members ≡ l.initial.blocks.members;
  count : length l.blocks.leaders.items ≡ length l.initial.blocks.leaders.items;
  elected : (k : ℕ) → k < l.block-index → IsElected (length l.settled) l.blocks.classes.items l.blocks.leaders.items l.settled (slice_index l.touched k);
}
