use Rattle.std.proofs.Common.{◌≡◌, ◌≤◌}
use Rattle.closure_sets.specs.Row.{set_of}
use Rattle.tableau_graph.specs.TableauParts.{somes_below}
use Rattle.tableau_graph.proofs.some_next.somes_below.Given as goal

abbrev pub invariant-loop-i : goal.invariant-loop-i
invariant-loop-i l = (l.place ≡ somes_below l.c (set_of l.row.words) l.i) × (l.place ≤ l.i)
