use Rattle.std.proofs.Common.{subst, sym}
use Rattle.std.specs.List.Sorted.{IsNonDecreasingBy}
use Rattle.interconnection.specs.Shape.{rank}
use Rattle.interconnection.proofs.labels.sort_one.Goals as goal

pub returns-clause-sorted : goal.returns-clause-sorted
returns-clause-sorted c = subst (IsNonDecreasingBy rank) (sym c.replace.ensures.here) c.sort_labels.ensures.sorted
