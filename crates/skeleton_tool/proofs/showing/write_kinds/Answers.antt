use Rattle.std.proofs.Common.{arith}
use Rattle.solution_text.proofs.Satisfied.{over_count, over_there, ArePaired-at}
use Rattle.skeleton_tool.proofs.Skeletons.{shows_more, shows_all}
use Rattle.skeleton_tool.proofs.showing.write_kinds.Goals as goal

pub bounds-structures-number : goal.bounds-structures-number
bounds-structures-number c = let e = over_count _ _ _ c.requires.over in let lt = c.loop-number-test.true in omega arith

pub write_kind-requires-clause-over : goal.write_kind-requires-clause-over
write_kind-requires-clause-over c = over_there _ _ _ _ _ _ c.requires.over (ArePaired-at _ _ _ _ _ _ c.requires.over c.loop-number-test.true c.index-kinds-number.is c.index-structures-number.is)

pub loop-number-preserved : goal.loop-number-preserved
loop-number-preserved c = shows_more _ _ _ _ _ _ _ _ _ c.requires.over c.loop-number-test.true c.index-kinds-number.is c.index-structures-number.is c.loop-number.invariant c.in_ok-write_kind.ensures

pub returns : goal.returns
returns c = shows_all _ _ _ _ _ _ c.requires.over c.loop-number-test.false c.loop-number.invariant
