use Rattle.std.proofs.Common.{◌≡◌, length, arith, subst, sym}
use Rattle.tableau_graph.proofs.NodeTables.{table_push, IsNew}
use Rattle.tableau_graph.proofs.node_table.NodeTable.add.Goals as goal

pub invariant_of-self-in-Ok : goal.invariant_of-self-in-Ok
invariant_of-self-in-Ok g c =
    let nodes = c.self.inside.nodes.items in
    let at_end : c.len-n.result ≡ length nodes = omega (arith, c.len-n.ensures, c.self.inside.nodes.ok) in
    table_push g.N.Ord.cmp g.met.N.Node.exact nodes c.push.new.self.items c.args.node c.self.inside.numbers c.insert.new.self c.len-n.result c.self.invariant
    (subst (λ l. IsNew l c.args.node) (sym c.self.view_is) c.requires.new) at_end c.in-Ok.ensures.updates.0 c.in-Ok.ensures.updates.1 c.in_ok-push.ensures.items
