use Rattle.std.proofs.Common.{ℕ, ◌≡◌, ◌<◌, ◌≤◌, ◌+◌, slice_index, length}
use Rattle.pair_quotient.specs.inside.Refining.{AreWaiting, IsAlone, IsSettled}
use Rattle.pair_quotient.proofs.moving.unsettle_before.Given as goal

abbrev pub invariant-loop-state : goal.invariant-loop-state
invariant-loop-state l = record {
  waiting : AreWaiting (length l.initial.settled) l.settled l.waiting.items;
  fewer : (s : ℕ) → IsSettled l.settled s → IsSettled l.initial.settled s;
  before : (j : ℕ) → j < l.state-index → (k : ℕ) → slice_index l.predecessors.begins.items (slice_index l.states j) ≤ k → k < slice_index l.predecessors.begins.items (slice_index l.states j + 1) → IsSettled l.settled (slice_index l.predecessors.sources.items k) → IsAlone l.blocks.classes.items (slice_index l.predecessors.sources.items k);
  none : length l.states ≡ 0 → l.waiting.items ≡ l.initial.waiting.items;
}
