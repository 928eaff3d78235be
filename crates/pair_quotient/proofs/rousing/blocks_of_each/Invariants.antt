use Rattle.std.proofs.Common.{◌<◌, All, length}
use Rattle.pair_quotient.proofs.rousing.blocks_of_each.Given as goal

abbrev pub invariant-loop-state : goal.invariant-loop-state
invariant-loop-state l = All (λ b. b < length l.blocks.members) l.each.items
