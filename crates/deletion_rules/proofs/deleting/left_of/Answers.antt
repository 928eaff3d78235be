use Rattle.tableau_graph.specs.Graph.{graph_of}
use Rattle.deletion_rules.specs.Marks.{lists_of, lives_of}
use Rattle.deletion_rules.proofs.Left.{left_push}
use Rattle.deletion_rules.proofs.deleting.left_of.Goals as goal

pub loop-n-preserved : goal.loop-n-preserved
loop-n-preserved c = left_push c.args.t.now.closure (graph_of c.args.t.now) (lives_of c.args.lives.now) (lists_of c.args.table.now) c.loop-n.n c.loop-n.left.items c.push.new.self.items c.stays.result c.loop-n.invariant c.in_ok-push.ensures.items c.stays.ensures.left c.stays.ensures.gone
