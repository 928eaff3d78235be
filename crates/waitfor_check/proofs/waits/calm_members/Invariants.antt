use Rattle.waitfor_check.specs.inside.Calm.{AreCalm}
use Rattle.waitfor_check.proofs.waits.calm_members.Given as goal

abbrev pub invariant-loop-m : goal.invariant-loop-m
invariant-loop-m l = AreCalm l.system l.star l.m l.calm
