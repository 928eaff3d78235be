use Rattle.std.proofs.Common.{◌≡◌, true, take}
use Rattle.std.specs.List.{list_all}
use Rattle.tableau_graph.specs.TableauParts.{edges_at}
use Rattle.deletion_rules.specs.inside.Cursors.{flag_of}
use Rattle.deletion_rules.proofs.deleting.lives_on.Given as goal

abbrev pub invariant-loop-or : goal.invariant-loop-or
invariant-loop-or l = (l.or-items ≡ edges_at l.t.successors l.n) × (list_all (flag_of l.ors) (take l.or-index l.or-items) ≡ true)
