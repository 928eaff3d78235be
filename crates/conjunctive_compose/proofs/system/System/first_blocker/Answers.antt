use Rattle.std.proofs.Common.{arith, IsTrue, false, refl}
use Rattle.pair_structure.specs.declared.side.Side.TheVariants.{A}
use Rattle.interconnection.specs.declared.parts.Beside.{Beside}
use Rattle.conjunctive_compose.proofs.Neighbours.{all_permit, are_beside, first_is, so_more}
use Rattle.conjunctive_compose.proofs.system.System.first_blocker.Goals as goal

nobody : Beside
nobody = record { process = 0; edge = 0; side = A }

pub is_permitted-requires-clause-beside : goal.is_permitted-requires-clause-beside
unfolding nobody
is_permitted-requires-clause-beside c = (are_beside c.args.self.now c.args.wish.process c.args.neighbours.now c.requires.neighbours).each c.loop-b.b-index nobody c.loop-b-test.true

pub returns-clause-none : goal.returns-clause-none
returns-clause-none c = all_permit c.args.self.now c.args.w.now c.args.wish.process c.args.wish.arc c.args.neighbours.now (are_beside c.args.self.now c.args.wish.process c.args.neighbours.now c.requires.neighbours) (λ i d lt. c.loop-b.invariant i d (omega (arith, lt, c.loop-b-test.false)))

pub returns-then-not-is_permitted-clause-some : goal.returns-then-not-is_permitted-clause-some
unfolding nobody
returns-then-not-is_permitted-clause-some c =
    let are = are_beside c.args.self.now c.args.wish.process c.args.neighbours.now c.requires.neighbours in
    first_is c.args.self.now c.args.w.now c.args.wish c.args.neighbours.now c.loop-b.b-index nobody are c.loop-b-test.true c.loop-b.invariant
    (λ permit. let never : IsTrue false = rw c.if-not-is_permitted.true at (c.is_permitted.ensures.1 permit) in cc)

pub loop-b-preserved : goal.loop-b-preserved
unfolding nobody
loop-b-preserved c = so_more c.args.self.now c.args.w.now c.args.wish.arc c.args.neighbours.now c.loop-b.b-index nobody c.loop-b-test.true c.loop-b.invariant (c.is_permitted.ensures.0 (rw c.if-not-is_permitted.false refl))
