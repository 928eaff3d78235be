use Rattle.std.proofs.Common.{ℕ, ◌<◌, ◌≤◌, slice_index, length}
use Rattle.pair_quotient.specs.inside.Refining.{AreWaiting, IsAlone, IsSettled}
use Rattle.pair_quotient.proofs.moving.unsettle_sources.Given as goal

abbrev pub invariant-loop-place : goal.invariant-loop-place
invariant-loop-place l = record {
  waiting : AreWaiting (length l.initial.settled) l.settled l.waiting.items;
  fewer : (s : ℕ) → IsSettled l.settled s → IsSettled l.initial.settled s;
  before : (k : ℕ) → l.begin ≤ k → k < l.place → IsSettled l.settled (slice_index l.predecessors.sources.items k) → IsAlone l.blocks.classes.items (slice_index l.predecessors.sources.items k);
}
