use Rattle.std.proofs.Common.{sym, refl}
use Rattle.ctl_text.proofs.Named.{found-Contains}
use Rattle.solution_text.proofs.take.local_of.Goals as goal

pub returns-in-Some-clause-some : goal.returns-in-Some-clause-some
returns-in-Some-clause-some c = (found-Contains c.args.names.now c.args.name.now _ (sym c.in-Some.ensures.number)).0 refl

pub returns-in-None-clause-none : goal.returns-in-None-clause-none
returns-in-None-clause-none c = λ there. let t = (found-Contains c.args.names.now c.args.name.now _ (sym c.in-None.ensures.number)).1 there in cc
