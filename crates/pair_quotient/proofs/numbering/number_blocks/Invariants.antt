use Rattle.pair_quotient.specs.inside.Numbering.{IsNumberedBelow}
use Rattle.pair_quotient.proofs.numbering.number_blocks.Given as goal

abbrev pub invariant-loop-state : goal.invariant-loop-state
invariant-loop-state l = IsNumberedBelow l.blocks l.firsts.items l.state l.classes.items l.lowest.items
