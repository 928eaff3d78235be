use Rattle.interconnection.proofs.Locks.{shared_locks}
use Rattle.interconnection.proofs.laws.shared_locks_join.Goals as goal

pub returns : goal.returns
returns c = shared_locks
