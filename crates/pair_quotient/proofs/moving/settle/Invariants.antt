use Rattle.std.proofs.Common.{ℕ, ◌<◌, slice_index}
use Rattle.pair_quotient.specs.inside.Refining.{IsSettled}
use Rattle.pair_quotient.proofs.moving.settle.Given as goal

abbrev pub invariant-loop-state : goal.invariant-loop-state
invariant-loop-state l = record {
  more : (s : ℕ) → IsSettled l.initial.settled s → IsSettled l.settled s;
  each : (k : ℕ) → k < l.state-index → IsSettled l.settled (slice_index l.states k);
}
