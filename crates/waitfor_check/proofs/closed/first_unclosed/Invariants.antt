use Rattle.std.proofs.Common.{ℕ, ◌<◌, length}
use Rattle.waitfor_check.specs.Closed.{StepsStay}
use Rattle.waitfor_check.specs.inside.Walk.{HasRoom}
use Rattle.waitfor_check.proofs.closed.first_unclosed.Given as goal

abbrev pub invariant-loop-m : goal.invariant-loop-m
invariant-loop-m l = record {
  room : HasRoom (length l.star.shape.leaves) l.room;
  stay : (member : ℕ) → member < l.m → StepsStay l.system l.star member;
}
