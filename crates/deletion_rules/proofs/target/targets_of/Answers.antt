use Rattle.std.proofs.Common.{◌<◌, arith, subst}
use Rattle.closure_sets.specs.ClosureParts.{count}
use Rattle.deletion_rules.specs.Targets.{IsTargetOf}
use Rattle.deletion_rules.proofs.TargetLaws.{targets_more}
use Rattle.deletion_rules.proofs.target.targets_of.Goals as goal

pub loop-member-preserved : goal.loop-member-preserved
loop-member-preserved c =
    let lt : c.loop-member.member < count c.args.c.now = omega (arith, c.loop-member-test.true, c.count-member-end.ensures.count) in
    rw c.in_ok-push_some.ensures.pushed (targets_more c.args.c.now c.tell_members.ensures c.loop-member.member lt c.loop-member.targets.items c.target_of.result (subst (λ p. IsTargetOf p c.loop-member.member c.target_of.result) c.part.ensures c.target_of.ensures) c.loop-member.invariant)
