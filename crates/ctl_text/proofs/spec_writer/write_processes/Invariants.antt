use Rattle.std.proofs.Common.{◌≡◌, ◌++◌, take, map}
use Rattle.std.specs.List.{flat_map}
use Rattle.ctl_text.specs.SpecText.{ended, process_text}
use Rattle.ctl_text.proofs.spec_writer.write_processes.Given as goal

abbrev pub invariant-loop-process : goal.invariant-loop-process
invariant-loop-process l = l.into.items ≡ l.initial.into.items ++ flat_map ended (map (process_text l.roles) (take l.process-index l.processes))
