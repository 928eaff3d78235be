use Rattle.std.proofs.Common.{◌≡◌, ◌++◌}
use Rattle.std.specs.List.{flat_map, range_with_len}
use Rattle.skeleton_tool.specs.Replay.{process_line}
use Rattle.skeleton_tool.proofs.run_text.write_processes.Given as goal

abbrev pub invariant-loop-process : goal.invariant-loop-process
invariant-loop-process l = l.into.items ≡ l.initial.into.items ++ flat_map (process_line l.system l.whole l.moves) (range_with_len 0 l.process)
