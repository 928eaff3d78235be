use Rattle.ctl_text.proofs.grown.with_set.Goals as goal

pub returns-in_ok-role-in-InRole-clause-free : goal.returns-in_ok-role-in-InRole-clause-free
returns-in_ok-role-in-InRole-clause-free c = rw c.in-InRole.is c.in_ok-role-in-InRole.ensures.free
