use Rattle.std.proofs.Common.{◌≡◌, map}
use Rattle.std.specs.List.{range_with_len}
use Rattle.conjunctive_compose.specs.Whole.{start_local}
use Rattle.conjunctive_compose.proofs.system.System.start_locals.Given as goal

abbrev pub invariant-loop-k : goal.invariant-loop-k
invariant-loop-k l = l.locals.items ≡ map (start_local l.self) (range_with_len 0 l.k)
