use Rattle.std.proofs.Common.{◌≡◌, take}
use Rattle.unravel.specs.inside.Joining.{start_labels}
use Rattle.unravel.proofs.joining.labels_of.Given as goal

abbrev pub invariant-loop-start : goal.invariant-loop-start
invariant-loop-start l = l.labels.items ≡ start_labels (take l.start-index l.a) l.b
