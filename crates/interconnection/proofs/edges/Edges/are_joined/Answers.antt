use Rattle.interconnection.proofs.EdgeTables.{are_joined_from}
use Rattle.interconnection.proofs.edges.Edges.are_joined.Goals as goal

pub returns : goal.returns
returns c = are_joined_from c.self.inside.list.items c.args.self.now c.self.inside.beside c.args.p c.args.q c.list.result.now c.has.result c.self.view_is c.self.invariant c.list.ensures c.has.ensures
