use Rattle.std.proofs.Common.{below_more, arith, IsTrue, false}
use Rattle.pair_structure.proofs.role_fault.first_repeated_arc.Goals as goal

pub loop-number-preserved : goal.loop-number-preserved
loop-number-preserved c = below_more _ _ c.loop-number.invariant (λ earlier. let no : IsTrue false = c.if-has_arc.ensures.1 earlier in cc)

pub returns : goal.returns
returns c = λ arc lt. c.loop-number.invariant arc (omega (arith, c.loop-number-test.false))
