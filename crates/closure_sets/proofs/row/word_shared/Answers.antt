use Rattle.std.proofs.lemmas.Nat.Bits.{bit_at_and}
use Rattle.closure_sets.proofs.row.word_shared.Goals as goal

pub returns : goal.returns
returns c = λ bit lt. bit_at_and c.args.word c.args.other bit
