use Rattle.tableau_graph.proofs.NodeTables.{numbers_step}
use Rattle.tableau_graph.proofs.node_table.NodeTable.number_each.Goals as goal

pub loop-node-preserved : goal.loop-node-preserved
loop-node-preserved g c =
    numbers_step c.args.self.now c.args.nodes.now c.loop-node.self c.number.new.self c.node-item.result c.loop-node.numbers.items c.push.new.self.items c.loop-node.node-index c.in_ok-number.field-0
    c.loop-node-test.true c.node-item.is c.loop-node.invariant c.in_ok-number.ensures.number c.in_ok-push.ensures.items
