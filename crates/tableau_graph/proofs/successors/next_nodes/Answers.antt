use Rattle.tableau_graph.proofs.Carried.{next_step}
use Rattle.tableau_graph.proofs.successors.next_nodes.Goals as goal

pub loop-member-preserved : goal.loop-member-preserved
loop-member-preserved c =
    next_step c.args.c.now c.args.node.now c.loop-member.member c.loop-member.nodes.items c.push_some.new.items.items c.next_node.result c.loop-member.invariant c.next_node.ensures c.in_ok-push_some.ensures.pushed
