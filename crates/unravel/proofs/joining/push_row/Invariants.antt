use Rattle.std.proofs.Common.{◌≡◌, ◌++◌, take}
use Rattle.unravel.specs.inside.Joining.{start_row}
use Rattle.unravel.proofs.joining.push_row.Given as goal

abbrev pub invariant-loop-start : goal.invariant-loop-start
invariant-loop-start l = l.labels.items ≡ l.initial.labels.items ++ start_row l.a (take l.start-index l.b)
