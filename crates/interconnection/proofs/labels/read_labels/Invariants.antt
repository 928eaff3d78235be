use Rattle.interconnection.specs.inside.Labels.{AreRead}
use Rattle.interconnection.proofs.labels.read_labels.Given as goal

abbrev pub invariant-loop-edge : goal.invariant-loop-edge
invariant-loop-edge l = AreRead l.edge-index l.fn.count l.edges l.labels
