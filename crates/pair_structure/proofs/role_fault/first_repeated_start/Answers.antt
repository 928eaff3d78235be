use Rattle.std.proofs.Common.{below_more, arith, IsTrue, false}
use Rattle.pair_structure.proofs.role_fault.first_repeated_start.Goals as goal

pub loop-place-preserved : goal.loop-place-preserved
loop-place-preserved c = below_more _ _ c.loop-place.invariant (λ earlier. let no : IsTrue false = c.if-has_start.ensures.1 earlier in cc)

pub returns : goal.returns
returns c = λ place lt. c.loop-place.invariant place (omega (arith, c.loop-place-test.false))
