use Rattle.certificate_text.proofs.member.with_member.Goals as goal

pub returns-in_ok-push-in-InStar-clause-free : goal.returns-in_ok-push-in-InStar-clause-free
returns-in_ok-push-in-InStar-clause-free c = rw c.in-InStar.is c.in_ok-check_member-in-InStar.ensures.free
