use Rattle.interconnection.proofs.Locks.{few_locks}
use Rattle.firing_words.proofs.opening.counts.Goals as goal

pub returns-clause-few : goal.returns-clause-few
returns-clause-few c = (few_locks c.args.system.now.network c.network-network.ensures.system.network).all
