use Rattle.skeleton_tool.proofs.Verdicts.{names_process, tells_some}
use Rattle.skeleton_tool.proofs.checking.tell_verdict.Goals as goal

pub write_verdict-requires : goal.write_verdict-requires
write_verdict-requires c = names_process c.args.system.now c.args.certificate.now c.in_ok-verdict.verdict c.in_ok-verdict.ensures.verdict

pub returns-clause-some : goal.returns-clause-some
returns-clause-some c = tells_some c.args.system.now c.in_ok-verdict.verdict _ _ c.requires.empty c.in_ok-write_verdict.ensures
