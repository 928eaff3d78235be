use Rattle.std.proofs.Common.{length}
use Rattle.pair_quotient.specs.inside.Refining.{IsMemberIfAny}
use Rattle.pair_quotient.proofs.electing.frequent_member.Given as goal

abbrev pub invariant-loop-state : goal.invariant-loop-state
invariant-loop-state l = IsMemberIfAny (length l.m.states) l.classes l.block l.vote.state
