use Rattle.closure_sets.specs.Label.{wrong_of}
use Rattle.closure_sets.specs.Row.{set_of}
use Rattle.closure_sets.proofs.MarkLaws.{IsMarked}
use Rattle.closure_sets.proofs.marks.wrong_row.Given as goal

abbrev pub invariant-loop-member : goal.invariant-loop-member
invariant-loop-member l = IsMarked (set_of l.row.words) (wrong_of l.c (l.a, l.b)) l.member
