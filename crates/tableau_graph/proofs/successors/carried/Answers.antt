use Rattle.closure_sets.specs.Row.{set_of}
use Rattle.tableau_graph.proofs.Carried.{carried_none, carried_step}
use Rattle.tableau_graph.proofs.successors.carried.Goals as goal

pub loop-member-init : goal.loop-member-init
loop-member-init c = carried_none c.args.c.now (set_of c.args.row.now.words) c.args.side (set_of c.empty-carried.result.words) c.empty-carried.ensures

pub loop-member-preserved : goal.loop-member-preserved
loop-member-preserved c =
    carried_step c.args.c.now (set_of c.args.row.now.words) c.args.side c.loop-member.member c.part.result c.has.result (set_of c.loop-member.carried.words) (set_of c.carried_to-carried.result.words)
    c.part.ensures c.has.ensures c.loop-member.invariant c.carried_to-carried.ensures
