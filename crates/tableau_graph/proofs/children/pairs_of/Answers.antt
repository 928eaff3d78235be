use Rattle.std.proofs.Common.{ℕ, List, subst}
use Rattle.pair_structure.specs.declared.side.LocalArc.{LocalArc}
use Rattle.tableau_graph.specs.Growing.{AreEnds}
use Rattle.tableau_graph.proofs.Ends.{ends_lead}
use Rattle.tableau_graph.proofs.children.pairs_of.Goals as goal

pub returns-in_ok-ends_of-in-Some : goal.returns-in_ok-ends_of-in-Some
returns-in_ok-ends_of-in-Some c =
    let pair : ℕ × ℕ = (c.args.node.now.a, c.args.node.now.b) in
    let ends : List (ℕ × ℕ) = c.in_ok-ends_of-in-Some.field-0.items in
    ends_lead c.args.a.now c.args.b.now c.args.node.now.side c.in-Some.side pair ends c.in-Some.is (subst (λ (l : List LocalArc). AreEnds c.in-Some.side pair l ends) c.arcs_of.ensures c.in_ok-ends_of-in-Some.ensures)
