use Rattle.skeleton_tool.specs.Replay.{ReplaysJournal, journal_grammar}
use Rattle.skeleton_tool.proofs.SystemLaws.{has_structures}
use Rattle.skeleton_tool.proofs.BothTaken.{ends_third, stops_at_third}
use Rattle.skeleton_tool.proofs.replaying.replay.Goals as goal

pub system_of-requires : goal.system_of-requires
system_of-requires g c = has_structures _ _ _ _ c.in_ok-spec.ensures.over c.in_ok-spec.ensures.sol

pub returns-in-Err-clause-ends : goal.returns-in-Err-clause-ends
returns-in-Err-clause-ends g c =
    stops_at_third (λ v. journal_grammar) ReplaysJournal _ _ _ _ _ _ _ c.in_ok-spec.spec c.in_ok-spec.sol c.in_ok-system.system c.args.spec.now c.args.sol.now c.args.journal.now _ c.in-Err.stop
    c.in_ok-spec.ensures.spec c.in_ok-spec.ensures.sol c.in_ok-system.ensures c.take_both.ensures.kept c.in-Err.ensures.stopped

pub returns-clause-ends : goal.returns-clause-ends
returns-clause-ends g c =
    ends_third (λ v. journal_grammar) ReplaysJournal _ _ _ _ _ _ _ c.in_ok-spec.spec c.in_ok-spec.sol c.in_ok-system.system c.in-Ok.journal c.args.spec.now c.args.sol.now c.args.journal.now _ _
    c.in_ok-spec.ensures.spec c.in_ok-spec.ensures.sol c.in_ok-system.ensures c.take_both.ensures.kept c.in-Ok.ensures.read c.in_ok-status.ensures.answer c.in_ok-status.ensures.some
