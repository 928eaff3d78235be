use Rattle.conjunctive_compose.proofs.Peelings.{beside_within}
use Rattle.conjunctive_compose.proofs.system.System.is_past.Goals as goal
use Rattle.std.proofs.Common.{arith}

pub has-requires : goal.has-requires
has-requires c = omega (arith, beside_within c.args.self.now c.args.wish.process c.args.b.now c.network-network.ensures.system c.requires.beside, c.requires.peeling.size)
