use Rattle.std.proofs.Common.{◌≡◌, ◌++◌, take, map}
use Rattle.std.specs.List.{flat_map}
use Rattle.ctl_text.specs.SpecText.{ended, start_text}
use Rattle.ctl_text.proofs.spec_writer.write_starts.Given as goal

abbrev pub invariant-loop-start : goal.invariant-loop-start
invariant-loop-start l = l.into.items ≡ l.initial.into.items ++ flat_map ended (map (start_text l.names) (take l.start-index l.starts))
