use Rattle.std.proofs.Common.{arith}
use Rattle.pair_structure.proofs.StatesLeft.{HaveLeft-next, HaveLeft-again, passed_over}
use Rattle.pair_structure.proofs.move_check.first_without_move.Goals as goal
use Rattle.pair_structure.proofs.move_check.first_without_move.Goals.{then-m-next-2, else-m-next-2}

pub loop-m-preserved : goal.loop-m-preserved
loop-m-preserved c =
    let have = c.loop-m.invariant.have in
    elim c.if-m-next-2.branch [
      | then-m-next-2 w ↦ rw w.next-is (record { within = omega (arith, c.requires.in_range c.loop-m.m-index c.loop-m-test.true); have = HaveLeft-next _ _ _ have c.loop-m-test.true w.if-m-next-2.true })
      | else-m-next-2 w ↦ rw w.next-is (record { within = c.loop-m.invariant.within; have = HaveLeft-again _ _ _ have (omega arith) })
    ]

pub returns-then-m-next : goal.returns-then-m-next
returns-then-m-next c = (omega (arith, c.requires.in_range c.loop-m.m-index c.loop-m-test.true), passed_over _ _ _ c.requires.rising c.loop-m.invariant.have c.loop-m-test.true c.if-m-next.true, c.loop-m.invariant.have.left)
