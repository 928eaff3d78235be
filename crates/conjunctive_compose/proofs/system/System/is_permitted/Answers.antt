use Rattle.conjunctive_compose.proofs.Permissions.{permits_told}
use Rattle.conjunctive_compose.proofs.system.System.is_permitted.Goals as goal

pub returns : goal.returns
returns c = let told = permits_told c.args.self.now c.args.w.now c.args.b.now.side c.args.wish.arc c.args.b.now.edge c.args.wish.pick c.value.result c.value.ensures.none c.value.ensures.some in rw c.is_some.ensures told
