use Rattle.std.proofs.Common.{◌≡◌, ◌++◌}
use Rattle.std.specs.List.{flat_map, range_with_len}
use Rattle.skeleton_tool.specs.Replay.{edge_line}
use Rattle.skeleton_tool.proofs.run_text.write_edges.Given as goal

abbrev pub invariant-loop-edge : goal.invariant-loop-edge
invariant-loop-edge l = l.into.items ≡ l.initial.into.items ++ flat_map (edge_line l.system l.states) (range_with_len 0 l.edge)
