use Rattle.std.proofs.Common.{true, length}
use Rattle.deletion_rules.specs.inside.Cursors.{AreCursors}
use Rattle.deletion_rules.specs.inside.Prefix.{StandsBefore}
use Rattle.deletion_rules.specs.inside.Spread.{Visits}
use Rattle.deletion_rules.proofs.visiting.visit_arrows.Given as goal

abbrev pub invariant-loop-arrow : goal.invariant-loop-arrow
invariant-loop-arrow l = record {
  visits : Visits l.m.tableau.now l.m.lives.now l.reached l.m.target l.round (StandsBefore l.arrows l.arrow-index) l.initial.front.marks.items l.initial.front.nodes.items l.front.marks.items l.front.nodes.items;
  cursors : AreCursors (length l.m.tableau.now.ands) l.m.tableau.now.successors l.reached true l.front.cursors.items;
}
