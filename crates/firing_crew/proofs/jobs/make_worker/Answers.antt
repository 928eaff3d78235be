use Rattle.firing_crew.proofs.Begun.{begun}
use Rattle.firing_crew.proofs.jobs.make_worker.Goals as goal

pub returns : goal.returns
returns c = begun c.args.hall.now c.args.orders c.args.caller c.args.pass.now c.in_ok-worker.worker c.args.locals.now c.system.result.now c.system.ensures c.network-network.ensures.system c.requires.fresh c.requires.within c.requires.locals c.in_ok-worker.ensures
