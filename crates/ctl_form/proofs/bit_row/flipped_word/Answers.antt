use Rattle.std.specs.Int.{w64}
use Rattle.std.proofs.lemmas.Nat.Bits.{bit_at_not}
use Rattle.ctl_form.proofs.bit_row.flipped_word.Goals as goal

pub returns : goal.returns
returns c = λ bit lt. bit_at_not w64 c.args.word bit c.ranges.word.fits lt
