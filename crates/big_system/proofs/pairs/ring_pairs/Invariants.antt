use Rattle.std.proofs.Common.{◌≡◌, length, map}
use Rattle.std.specs.List.{range_with_len}
use Rattle.big_system.specs.Graphs.{pair_on}
use Rattle.big_system.proofs.pairs.ring_pairs.Given as goal

abbrev pub invariant-loop-k : goal.invariant-loop-k
invariant-loop-k l = record { pairs : l.pairs.items ≡ map pair_on (range_with_len 0 l.k); few : length l.pairs.items ≡ l.k }
