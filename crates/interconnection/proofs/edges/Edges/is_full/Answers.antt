use Rattle.interconnection.proofs.EdgeTables.{is_full_from}
use Rattle.interconnection.proofs.edges.Edges.is_full.Goals as goal

pub returns : goal.returns
returns c = is_full_from c.self.inside.list.items c.args.self.now c.self.inside.beside c.args.process c.args.most c.list.result.now c.self.view_is c.self.invariant c.list.ensures
