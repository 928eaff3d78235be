use Rattle.std.proofs.Common.{arith}
use Rattle.firing_crew.proofs.Standing.{look_works}
use Rattle.firing_crew.proofs.work.look_on.Goals as goal

pub returns-clause-works : goal.returns-clause-works
returns-clause-works c =
    let look = c.look.ensures in
    look_works c.args.hall.now c.args.orders c.args.process c.args.pass.now c.look.new.pass c.args.worker.now c.look_away.new.self c.look.result c.requires.works c.requires.look look.of look.caller (λ full. let long = look.full.0 full in omega (arith, long, c.requires.room)) look.asked c.look_away.ensures
