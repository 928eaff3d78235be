use Rattle.std.proofs.Common.{refl}
use Rattle.conjunctive_compose.proofs.Neighbours.{are_beside}
use Rattle.conjunctive_compose.proofs.Passing.{count_within, nobody, past_further}
use Rattle.conjunctive_compose.proofs.system.System.count_passed.Goals as goal

pub passed-n-requires : goal.passed-n-requires
passed-n-requires c = (count_within c.args.self.now c.args.w.now c.args.peeling.now c.args.wish.process c.args.wish.arc c.network-network.ensures.system c.requires.peeling c.requires.fits).1

pub is_past-requires-clause-beside : goal.is_past-requires-clause-beside
is_past-requires-clause-beside c = (are_beside c.args.self.now c.args.wish.process c.args.neighbours.now c.requires.neighbours).each c.loop-n.n nobody c.loop-n-test.true

pub loop-n-preserved : goal.loop-n-preserved
loop-n-preserved c = past_further c.args.self.now c.args.w.now c.args.peeling.now.marks c.args.wish.arc c.args.neighbours.now c.loop-n.n nobody c.loop-n-test.true c.loop-n.invariant (c.is_past.ensures.0 (rw c.if-not-is_past.false refl))
