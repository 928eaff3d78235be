use Rattle.std.proofs.Common.{take}
use Rattle.tableau_graph.specs.NodeTable.{AreNumbers}
use Rattle.tableau_graph.proofs.node_table.NodeTable.number_each.Given as goal

abbrev pub invariant-loop-node : goal.invariant-loop-node
invariant-loop-node g l = AreNumbers l.initial.self (take l.node-index l.nodes) l.self l.numbers.items
