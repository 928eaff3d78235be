use Rattle.ctl_text.proofs.ClosureCount.{kind_free}
use Rattle.ctl_text.proofs.ended.with_ended_kind.Goals as goal

pub returns-clause-free : goal.returns-clause-free
returns-clause-free c = kind_free c.args.pairs.roles c.args.kind c.in_ok-normal.normal (rw c.roles.ensures at c.in_ok-normal.ensures.normal)
