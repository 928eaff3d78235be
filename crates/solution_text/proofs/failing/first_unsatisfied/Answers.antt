use Rattle.std.proofs.Common.{arith}
use Rattle.solution_text.proofs.Satisfied.{over_count, over_there, all_solve, ArePaired-at, one_more}
use Rattle.solution_text.proofs.failing.first_unsatisfied.Goals as goal

pub bounds-structures-number : goal.bounds-structures-number
bounds-structures-number c = let e = over_count _ _ _ c.requires.over in let lt = c.loop-number-test.true in omega arith

pub satisfies-requires-clause-over : goal.satisfies-requires-clause-over
satisfies-requires-clause-over c = over_there _ _ _ _ _ _ c.requires.over (ArePaired-at _ _ _ _ _ _ c.requires.over c.loop-number-test.true c.index-kinds-number.is c.index-structures-number.is)

pub loop-number-preserved : goal.loop-number-preserved
loop-number-preserved c =
    one_more _ _ _ _ _ _ c.loop-number.invariant (ArePaired-at _ _ _ _ _ _ c.requires.over c.loop-number-test.true c.index-kinds-number.is c.index-structures-number.is) (c.in_ok-satisfies.ensures.0 c.if-not-branch.false)

pub returns : goal.returns
returns c = all_solve _ _ _ c.requires.over (λ k lt. let end = c.loop-number-test.false in c.loop-number.invariant k (omega arith))
