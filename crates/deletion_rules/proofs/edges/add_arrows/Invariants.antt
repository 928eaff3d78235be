use Rattle.std.proofs.Common.{◌≡◌, ◌≤◌}
use Rattle.tableau_graph.specs.TableauParts.{and_at, row_of, somes_below}
use Rattle.deletion_rules.proofs.EdgeLaws.{AddsArrows}
use Rattle.deletion_rules.proofs.edges.add_arrows.Given as goal

abbrev pub invariant-loop-member : goal.invariant-loop-member
invariant-loop-member l = record {
  place : l.place ≡ somes_below l.t.closure (row_of (and_at l.t.ands l.and)) l.member;
  few : l.place ≤ l.member;
  adds : AddsArrows l.t l.and l.member l.arrows;
}
