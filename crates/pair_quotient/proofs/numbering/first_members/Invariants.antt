use Rattle.std.proofs.Common.{◌≤◌, length}
use Rattle.pair_quotient.specs.inside.Numbering.{AreFirsts}
use Rattle.pair_quotient.proofs.numbering.first_members.Given as goal

abbrev pub invariant-loop-state : goal.invariant-loop-state
invariant-loop-state l = record {
  within : l.state ≤ length l.blocks;
  firsts : AreFirsts l.blocks l.count l.state l.firsts.items;
}

abbrev pub decreases-loop-state : goal.decreases-loop-state
decreases-loop-state l = l.state
