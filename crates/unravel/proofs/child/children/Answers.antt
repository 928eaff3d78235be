use Rattle.std.proofs.Common.{ℕ, ◌<◌, List, length, slice_index, subst, sym, ap, ◌∙◌}
use Rattle.tableau_graph.specs.TableauParts.{edges_at}
use Rattle.unravel.proofs.Nodes.{child_within}
use Rattle.unravel.proofs.child.children.Goals as goal

pub returns-clause-within : goal.returns-clause-within
returns-clause-within c =
    let e = c.children.ensures ∙ ap (λ t. edges_at t.children c.args.or) c.tableau_of.ensures.tableau in
    subst (λ (xs : List ℕ). (k : ℕ) → k < length xs → slice_index xs k < length c.args.ranks.now.tableau.ands) (sym e) (child_within c.args.ranks.now.tableau c.tableau_of.ensures.alive.tableau c.args.or)
