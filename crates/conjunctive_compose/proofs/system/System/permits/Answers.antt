use Rattle.conjunctive_compose.proofs.Permissions.{told_on_side}
use Rattle.conjunctive_compose.proofs.system.System.permits.Goals as goal

pub returns : goal.returns
returns c = told_on_side c.args.self.now c.args.w.now c.args.process c.args.arc c.args.edge c.beside-b.result c.is_permitted.result c.beside-b.ensures.system c.beside-b.ensures.beside c.beside-b.ensures.edge c.is_permitted.ensures
