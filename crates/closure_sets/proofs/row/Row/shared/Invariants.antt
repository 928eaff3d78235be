use Rattle.closure_sets.proofs.Words.{AreMade, shared_bit}
use Rattle.closure_sets.proofs.row.Row.shared.Given as goal

abbrev pub invariant-loop-place : goal.invariant-loop-place
invariant-loop-place l = AreMade shared_bit l.self.words l.others.words l.place l.row.words
