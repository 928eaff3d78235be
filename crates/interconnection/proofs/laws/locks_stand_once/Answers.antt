use Rattle.interconnection.proofs.RisingLists.{rising_counts_once}
use Rattle.interconnection.proofs.laws.locks_stand_once.Goals as goal

pub returns : goal.returns
returns c = λ edges k plan lock is own. rising_counts_once lock plan is.rising ((is.exactly lock).1 own)
