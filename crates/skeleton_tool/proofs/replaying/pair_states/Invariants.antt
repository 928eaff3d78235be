use Rattle.std.proofs.Common.{ℕ, ◌≡◌, ◌<◌, length}
use Rattle.std.specs.Prelude.{slice_index}
use Rattle.conjunctive_compose.specs.Whole.{HasPair}
use Rattle.skeleton_tool.proofs.replaying.pair_states.Given as goal

abbrev pub invariant-loop-edge : goal.invariant-loop-edge
invariant-loop-edge l = record {
  one_each : length l.states.items ≡ l.edge;
  pairs : (e : ℕ) → e < l.edge → HasPair l.system l.whole e (slice_index l.states.items e);
}
