use Rattle.interconnection.proofs.Locks.{few_locks as few}
use Rattle.interconnection.proofs.laws.few_locks.Goals as goal

pub returns : goal.returns
returns c = few
