use Rattle.std.proofs.Common.{◌≡◌, ◌++◌, take, map}
use Rattle.std.specs.List.{flat_map}
use Rattle.ctl_text.specs.SpecText.{ended, edge_text}
use Rattle.ctl_text.proofs.spec_writer.write_edges.Given as goal

abbrev pub invariant-loop-edge : goal.invariant-loop-edge
invariant-loop-edge l = l.into.items ≡ l.initial.into.items ++ flat_map ended (map (edge_text l.processes l.kinds) (take l.edge-index l.edges))
