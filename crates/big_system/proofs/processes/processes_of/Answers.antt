use Rattle.std.proofs.Common.{arith, sym}
use Rattle.std.proofs.lemmas.List.FromFn.{map-range_with_len_more}
use Rattle.big_system.specs.Systems.{process_of}
use Rattle.big_system.proofs.processes.processes_of.Goals as goal

pub loop-k-preserved : goal.loop-k-preserved
loop-k-preserved c = rw (c.in_ok-push.ensures.items, c.loop-k.invariant, c.in_ok-process_of.ensures) (sym (map-range_with_len_more process_of 0 c.loop-k.k c.loop-k.k (omega arith)))
