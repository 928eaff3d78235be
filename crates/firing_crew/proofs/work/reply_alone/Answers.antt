use Rattle.firing_crew.proofs.Standing.{answered_more, wish_works}
use Rattle.firing_crew.proofs.work.reply_alone.Goals as goal

pub returns-in-None-clause-works : goal.returns-in-None-clause-works
returns-in-None-clause-works g c =
    let fired = c.fire_alone-reply.ensures in
    let next = c.wish-wish.ensures.next in
    wish_works c.args.hall.now c.args.orders c.args.policy.now.turn c.args.pass.now c.fire_alone-reply.new.pass c.args.worker.now c.hear.new.self c.wish-wish.result c.fire_alone-reply.result c.system-system.result.now c.requires.works c.system-system.ensures c.requires.follows.turn_is (cc) next fired.of fired.caller fired.asked fired.answered c.hear.ensures.heard c.hear.ensures.of

pub returns-in-None-clause-more : goal.returns-in-None-clause-more
returns-in-None-clause-more g c = answered_more c.fire_alone-reply.result c.wish-wish.result c.args.pass.now.asked.items c.fire_alone-reply.new.pass.asked.items c.fire_alone-reply.ensures.answered c.fire_alone-reply.ensures.asked
