use Rattle.std.proofs.Common.{take}
use Rattle.tableau_graph.specs.Growing.{AreEnds}
use Rattle.tableau_graph.proofs.children.ends_of.Given as goal

abbrev pub invariant-loop-arc : goal.invariant-loop-arc
invariant-loop-arc l = AreEnds l.side l.pair (take l.arc-index l.arcs) l.ends.items
