use Rattle.std.proofs.Common.{◌≡◌}
use Rattle.tableau_graph.specs.TableauParts.{edges_at}
use Rattle.deletion_rules.proofs.EdgeLaws.{AddsParent}
use Rattle.deletion_rules.proofs.edges.add_parent.Given as goal

abbrev pub invariant-loop-child : goal.invariant-loop-child
invariant-loop-child l = record { items : l.child-items ≡ edges_at l.t.children l.or; adds : AddsParent l.t l.or l.child-index l.child-items l.parents }
