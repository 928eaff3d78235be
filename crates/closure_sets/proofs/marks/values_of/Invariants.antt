use Rattle.closure_sets.specs.inside.Marks.{AreValues}
use Rattle.closure_sets.proofs.marks.values_of.Given as goal

abbrev pub invariant-loop-member : goal.invariant-loop-member
invariant-loop-member l = AreValues l.c (l.a, l.b) l.member l.values.items
