use Rattle.std.proofs.Common.{◌≡◌, map}
use Rattle.std.specs.List.{range_with_len}
use Rattle.big_system.specs.Systems.{process_of}
use Rattle.big_system.proofs.processes.processes_of.Given as goal

abbrev pub invariant-loop-k : goal.invariant-loop-k
invariant-loop-k l = l.processes.items ≡ map process_of (range_with_len 0 l.k)
