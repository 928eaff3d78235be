use Rattle.big_system.proofs.Widths.{are_grid}
use Rattle.big_system.proofs.pairs.pairs_of.Goals as goal

pub returns-in_ok-pairs-in-Some-clause-pairs : goal.returns-in_ok-pairs-in-Some-clause-pairs
returns-in_ok-pairs-in-Some-clause-pairs c = are_grid c.args.count c.in-Some.width c.in_ok-pairs-in-Some.pairs.items c.in-Some.ensures.width c.in_ok-pairs-in-Some.ensures.pairs
