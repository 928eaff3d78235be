use Rattle.std.proofs.Common.{below_more, refl, subst, ◌∙◌}
use Rattle.std.proofs.lemmas.List.{get_or_default}
use Rattle.interconnection.specs.Network.{BeginsInStart}
use Rattle.interconnection.proofs.FaultLaws.{no_process}
use Rattle.interconnection.proofs.part_check.first_start_outside.Goals as goal

pub loop-k-preserved : goal.loop-k-preserved
loop-k-preserved c =
    let processes = c.args.processes.now in
    let k = c.loop-k.k in
    let process = c.index-processes-k.result in
    let same = c.index-processes-k.is ∙ get_or_default processes k process no_process c.loop-k-test.true in
    below_more _ _ c.loop-k.invariant (subst (BeginsInStart c.args.roles.now) same (c.if-not-begins_in_start.ensures.0 refl))
