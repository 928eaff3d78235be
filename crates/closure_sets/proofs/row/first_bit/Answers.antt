use Rattle.std.specs.Int.{w64}
use Rattle.std.proofs.lemmas.Nat.Bits.{bit_at-trailing_zeros}
use Rattle.closure_sets.proofs.row.first_bit.Goals as goal

pub returns : goal.returns
returns c = let t = bit_at-trailing_zeros w64 c.args.word c.requires c.ranges.word.fits in record { within = t.0; there = t.1; first = t.2 }
