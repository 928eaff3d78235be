use Rattle.skeleton_tool.specs.Check.{Checks, certificate_grammar}
use Rattle.skeleton_tool.proofs.SystemLaws.{has_structures}
use Rattle.skeleton_tool.proofs.BothTaken.{ends_third, stops_at_third}
use Rattle.skeleton_tool.proofs.checking.check.Goals as goal

pub system_of-requires : goal.system_of-requires
system_of-requires g c = has_structures _ _ _ _ c.in_ok-spec.ensures.over c.in_ok-spec.ensures.sol

pub take_certificate-requires-clause-network : goal.take_certificate-requires-clause-network
take_certificate-requires-clause-network g c = c.in_ok-system.ensures.network

pub returns-in-Err-clause-ends : goal.returns-in-Err-clause-ends
returns-in-Err-clause-ends g c =
    stops_at_third certificate_grammar Checks _ _ _ _ _ _ _ c.in_ok-spec.spec c.in_ok-spec.sol c.in_ok-system.system c.args.spec.now c.args.sol.now c.args.certificate.now _ c.in-Err.stop
    c.in_ok-spec.ensures.spec c.in_ok-spec.ensures.sol c.in_ok-system.ensures c.take_both.ensures.kept c.in-Err.ensures.stopped

pub returns-clause-ends : goal.returns-clause-ends
returns-clause-ends g c =
    ends_third certificate_grammar Checks _ _ _ _ _ _ _ c.in_ok-spec.spec c.in_ok-spec.sol c.in_ok-system.system c.in-Ok.stars c.args.spec.now c.args.sol.now c.args.certificate.now _ _
    c.in_ok-spec.ensures.spec c.in_ok-spec.ensures.sol c.in_ok-system.ensures c.take_both.ensures.kept c.in-Ok.ensures.read c.in_ok-status.ensures.answer c.in_ok-status.ensures.some
