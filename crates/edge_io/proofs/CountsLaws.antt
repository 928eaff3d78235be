-- Which count an answer raises.
use Rattle.std.proofs.Common.{◌≡◌, Result, IsErrOf, arith}
use Rattle.edge_io.specs.declared.counts.ShelfCounts.{ShelfCounts}
use Rattle.edge_io.specs.declared.shelf.ShelfFault.{ShelfFault}
use Rattle.edge_io.specs.declared.shelf.ShelfFault.TheVariants.{Failed, Long}
use Rattle.edge_io.specs.Counts.{Rose, counts_after}

-- a call that answers Failed raises the faults
pub faults-counts_after : (answer : Result (Unit {0}) ShelfFault) (before after : ShelfCounts) → after ≡ counts_after before answer
    → IsErrOf answer Failed → Rose before.faults after.faults
faults-counts_after answer before after counted failed = grind arith

-- a call that answers Long raises the long files
pub longs-counts_after : (answer : Result (Unit {0}) ShelfFault) (before after : ShelfCounts) → after ≡ counts_after before answer
    → IsErrOf answer Long → Rose before.longs after.longs
longs-counts_after answer before after counted long = grind arith
