use Rattle.std.proofs.Common.{◌*◌, ◌+◌, ◌-◌, length, min}
use Rattle.pair_quotient.specs.inside.Refining.{AreRefined}
use Rattle.pair_quotient.proofs.refining.stable_blocks.Given as goal

abbrev pub invariant-loop-alloc : goal.invariant-loop-alloc
invariant-loop-alloc l = AreRefined l.m l.blocks.classes.items l.blocks.leaders.items l.blocks.members l.settled.items l.waiting.items

abbrev pub decreases-loop-alloc : goal.decreases-loop-alloc
decreases-loop-alloc l = 2 * (length l.m.states - length l.blocks.leaders.items) + min 1 (length l.waiting.items)
