use Rattle.std.proofs.Common.{◌≡◌, false, take}
use Rattle.std.specs.List.{list_any}
use Rattle.tableau_graph.specs.TableauParts.{edges_at}
use Rattle.deletion_rules.specs.Marks.{lives_of}
use Rattle.deletion_rules.proofs.deleting.lives_or.Given as goal

abbrev pub invariant-loop-child : goal.invariant-loop-child
invariant-loop-child l = (l.child-items ≡ edges_at l.t.children l.or) × (list_any (lives_of l.lives) (take l.child-index l.child-items) ≡ false)
