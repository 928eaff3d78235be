use Rattle.pair_quotient.specs.inside.Labelling.{AreLabelled}
use Rattle.pair_quotient.proofs.blocks.Blocks.by_label.Given as goal

abbrev pub invariant-loop-state : goal.invariant-loop-state
invariant-loop-state l = AreLabelled l.labels l.state l.numbers l.blocks.classes.items l.blocks.leaders.items l.blocks.members
