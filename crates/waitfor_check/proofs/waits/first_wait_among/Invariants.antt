use Rattle.std.proofs.Common.{ℕ, ◌<◌, length}
use Rattle.waitfor_check.specs.Waits.{StaysCalm}
use Rattle.waitfor_check.specs.inside.Walk.{HasRoom}
use Rattle.waitfor_check.proofs.waits.first_wait_among.Given as goal

abbrev pub invariant-loop-m : goal.invariant-loop-m
invariant-loop-m l = record {
  room : HasRoom (length l.calm.shape.leaves) l.room;
  stay : (member : ℕ) → member < l.m → StaysCalm l.system l.star member;
}
