use Rattle.std.proofs.Common.{◌∙◌, ap, min, ℕ}
use Rattle.std.specs.Int.{bit_at, bit_not, w64}
use Rattle.std.proofs.lemmas.Nat.Bits.{bit_at_and, bit_at_not}
use Rattle.closure_sets.proofs.row.word_without.Goals as goal

pub returns : goal.returns
returns c = λ bit lt. bit_at_and c.args.word (bit_not w64 c.args.other) bit ∙ ap (λ (b : ℕ). min (bit_at c.args.word bit) b) (bit_at_not w64 c.args.other bit c.ranges.other.fits lt)
