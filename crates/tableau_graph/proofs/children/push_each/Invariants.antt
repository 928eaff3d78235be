use Rattle.std.proofs.Common.{◌≡◌, ◌++◌, map, take}
use Rattle.tableau_graph.specs.Growing.{and_with}
use Rattle.tableau_graph.proofs.children.push_each.Given as goal

abbrev pub invariant-loop-row : goal.invariant-loop-row
invariant-loop-row l = l.nodes.items ≡ l.initial.nodes.items ++ map (and_with l.pair) (take l.row-index l.rows)
