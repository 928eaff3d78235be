use Rattle.std.proofs.Common.{◌≡◌, ◌++◌, take, map}
use Rattle.std.specs.List.{flat_map}
use Rattle.ctl_text.specs.SpecText.{ended, arc_text}
use Rattle.ctl_text.proofs.spec_writer.write_arcs.Given as goal

abbrev pub invariant-loop-arc : goal.invariant-loop-arc
invariant-loop-arc l = l.into.items ≡ l.initial.into.items ++ flat_map ended (map (arc_text l.names) (take l.arc-index l.arcs))
