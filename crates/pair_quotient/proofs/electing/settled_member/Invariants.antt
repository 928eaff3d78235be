use Rattle.std.proofs.Common.{ℕ, ◌≡◌, ◌<◌, ◌≤◌, length, slice_index}
use Rattle.pair_quotient.specs.inside.Refining.{IsSettled}
use Rattle.pair_quotient.proofs.electing.settled_member.Given as goal

abbrev pub invariant-loop-place : goal.invariant-loop-place
invariant-loop-place l = record {
  within : l.place ≤ length l.states;
  none : (k : ℕ) → l.place ≤ k → k < length l.states → slice_index l.classes (slice_index l.states k) ≡ l.block → IsSettled l.settled (slice_index l.states k) → ⊥;
}

abbrev pub decreases-loop-place : goal.decreases-loop-place
decreases-loop-place l = l.place
