use Rattle.std.proofs.Common.{ℕ, ◌≤◌, length}
use Rattle.pair_quotient.specs.inside.Refining.{AreWaiting, IsSettled}
use Rattle.pair_quotient.proofs.rousing.rouse.Given as goal

abbrev pub invariant-loop-block : goal.invariant-loop-block
invariant-loop-block l = record {
  waiting : AreWaiting (length l.initial.settled) l.settled l.waiting.items;
  fewer : (s : ℕ) → IsSettled l.settled s → IsSettled l.initial.settled s;
  more : length l.initial.waiting.items ≤ length l.waiting.items;
}
