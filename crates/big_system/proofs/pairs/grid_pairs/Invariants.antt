use Rattle.std.proofs.Common.{◌≡◌, ◌≤◌, ◌*◌, length}
use Rattle.std.specs.List.{flat_map, range_with_len}
use Rattle.big_system.specs.Graphs.{pairs_of_cell}
use Rattle.big_system.proofs.pairs.grid_pairs.Given as goal

abbrev pub invariant-loop-cell : goal.invariant-loop-cell
invariant-loop-cell l = record { pairs : l.pairs.items ≡ flat_map (pairs_of_cell l.width l.count) (range_with_len 0 l.cell); few : length l.pairs.items ≤ 2 * l.cell }
