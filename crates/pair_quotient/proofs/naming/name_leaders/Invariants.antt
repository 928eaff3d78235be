use Rattle.std.proofs.Common.{ℕ, ◌<◌, length, slice_index}
use Rattle.pair_quotient.specs.inside.Naming.{AreNames, IsNameOf}
use Rattle.pair_quotient.proofs.naming.name_leaders.Given as goal

abbrev pub invariant-loop-block : goal.invariant-loop-block
invariant-loop-block l = record {
  names : AreNames l.m l.classes l.leaders (length l.leaders) l.names;
  each : (k : ℕ) → k < l.block-index → IsNameOf l.m l.classes l.names (slice_index l.leaders (slice_index l.blocks k)) (slice_index l.blocks k);
}
