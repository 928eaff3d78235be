use Rattle.closure_sets.proofs.Words.{AreMade, open_bit}
use Rattle.closure_sets.proofs.row.Row.without.Given as goal

abbrev pub invariant-loop-place : goal.invariant-loop-place
invariant-loop-place l = AreMade open_bit l.self.words l.others.words l.place l.row.words
