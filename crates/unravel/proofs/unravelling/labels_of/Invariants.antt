use Rattle.std.proofs.Common.{◌≡◌, take}
use Rattle.unravel.specs.inside.Growing.{labels_of}
use Rattle.unravel.proofs.unravelling.labels_of.Given as goal

abbrev pub invariant-loop-position : goal.invariant-loop-position
invariant-loop-position l = l.labels.items ≡ labels_of l.ranks.tableau (take l.position-index l.positions)
