use Rattle.std.proofs.Common.{subst}
use Rattle.waitfor_check.specs.inside.Walk.{IsWalked}
use Rattle.waitfor_check.proofs.Spelling.{completions_are}
use Rattle.waitfor_check.proofs.centre.walk_all.Goals as goal

pub returns-clause-walked : goal.returns-clause-walked
returns-clause-walked c = subst (λ xs. IsWalked c.args.members.now xs c.walk.result) (completions_are c.args.lists.now) c.walk.ensures.walked
