use Rattle.std.proofs.Common.{take}
use Rattle.closure_sets.specs.Row.{set_of}
use Rattle.tableau_graph.specs.Growing.{AreNodesAt}
use Rattle.tableau_graph.proofs.children.nodes_at.Given as goal

abbrev pub invariant-loop-pair : goal.invariant-loop-pair
invariant-loop-pair l = AreNodesAt l.c l.breadth (take l.pair-index l.pairs) (set_of l.seed.words) l.nodes.items
