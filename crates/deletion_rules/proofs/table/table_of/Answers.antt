use Rattle.tableau_graph.specs.Graph.{graph_of}
use Rattle.deletion_rules.specs.Marks.{lives_of}
use Rattle.deletion_rules.proofs.Tables.{table_push}
use Rattle.deletion_rules.proofs.table.table_of.Goals as goal

pub loop-member-preserved : goal.loop-member-preserved
loop-member-preserved c = table_push c.args.t.now.closure (graph_of c.args.t.now) (lives_of c.args.lives.now) c.loop-member.member c.loop-member.table.items c.push.new.self.items c.in_ok-marks_of.field-0 c.loop-member.invariant c.in_ok-push.ensures.items c.in_ok-marks_of.ensures
