use Rattle.std.proofs.Common.{◌≤◌, ◌+◌, true, length}
use Rattle.deletion_rules.specs.inside.Cursors.{AreCursors}
use Rattle.deletion_rules.specs.Marks.{open_count}
use Rattle.deletion_rules.specs.inside.Spread.{IsSpread}
use Rattle.deletion_rules.proofs.marking.spread.Given as goal

abbrev pub invariant-loop-alloc : goal.invariant-loop-alloc
invariant-loop-alloc l = record {
  spread : IsSpread l.m.tableau.now l.m.lives.now l.m.target (l.round + 1) l.front.marks.items l.reached l.front.nodes.items;
  cursors : AreCursors (length l.m.tableau.now.ands) l.m.tableau.now.successors l.reached true l.front.cursors.items;
  few : l.round + (open_count l.front.marks.items + length l.front.nodes.items) ≤ length l.m.tableau.now.ands;
}

abbrev pub decreases-loop-alloc : goal.decreases-loop-alloc
decreases-loop-alloc l = open_count l.front.marks.items + length l.front.nodes.items
