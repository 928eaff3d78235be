use Rattle.std.proofs.Common.{◌≤◌}
use Rattle.pair_structure.proofs.StatesLeft.{HaveLeft}
use Rattle.pair_structure.proofs.move_check.first_without_move.Given as goal

abbrev pub invariant-loop-m : goal.invariant-loop-m
invariant-loop-m l = record { within : l.next ≤ l.count; have : HaveLeft l.moves l.m-index l.next }
