use Rattle.std.proofs.Common.{◌≡◌}
use Rattle.tableau_graph.specs.Growing.{parts_of, room_of}
use Rattle.tableau_graph.specs.Rules.{FollowsRules}
use Rattle.tableau_graph.proofs.tableau.grown.Given as goal

abbrev pub invariant-loop-growing : goal.invariant-loop-growing
invariant-loop-growing l = record {
  breadth : l.growing.breadth ≡ l.fn.breadth;
  rules : FollowsRules (parts_of l.c l.a l.b l.growing);
}

abbrev pub decreases-loop-growing : goal.decreases-loop-growing
decreases-loop-growing l = room_of l.growing
