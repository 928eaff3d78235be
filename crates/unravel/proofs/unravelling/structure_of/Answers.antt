use Rattle.std.proofs.Common.{◌≡◌, ◌<◌, All, length, ap, subst, sym, ◌∙◌}
use Rattle.std.proofs.lemmas.Result.{IfOk-weaker}
use Rattle.deletion_rules.specs.Satisfying.{Satisfies}
use Rattle.deletion_rules.specs.declared.position.Position.{Position}
use Rattle.unravel.specs.inside.Growing.{labels_of}
use Rattle.unravel.proofs.Whole.{nodes_within, over_same, same_parts, whole_over, whole_satisfies}
use Rattle.unravel.proofs.unravelling.structure_of.Goals as goal

pub labels_of-requires : goal.labels_of-requires
labels_of-requires c = subst (λ ps. All (λ (p : Position). p.node < length c.args.ranks.now.tableau.ands) ps) (sym c.nodes.ensures.same) (nodes_within c.args.ranks.now c.tableau_of-tableau.ensures.alive c.args._targets.now c.args.growing.positions c.args.growing.moves.items c.requires.grown)

pub made-requires : goal.made-requires
made-requires c =
    let r = c.args.ranks.now in
    over_same r.tableau.a c.role_a.result.now r.tableau.b c.role_b.result.now (labels_of r.tableau c.args.growing.positions) c.deref.result.now c.arrange.new.moves.items c.deref-2.result.now
    (c.role_a.ensures ∙ ap (λ t. t.a) c.tableau_of-tableau.ensures.tableau)
    (c.role_b.ensures ∙ ap (λ t. t.b) c.tableau_of-tableau.ensures.tableau)
    (c.deref.ensures.value ∙ c.in_ok-labels.ensures ∙ ap (labels_of r.tableau) c.nodes.ensures.same)
    c.deref-2.ensures.value
    (whole_over c.tableau_is_graph.ensures r c.tableau_of-tableau.ensures.alive c.args._targets.now c.requires.targets c.args.growing.positions c.args.growing.moves.items c.requires.grown c.arrange.new.moves.items c.arrange.ensures.rising c.arrange.ensures.same)

pub returns : goal.returns
returns c =
    let r = c.args.ranks.now in
    let states = c.deref.ensures.value ∙ c.in_ok-labels.ensures ∙ ap (labels_of r.tableau) c.nodes.ensures.same in
    let satisfies = whole_satisfies c.tableau_is_graph.ensures r c.tableau_of-tableau.ensures.alive c.args._targets.now c.requires.targets c.args.growing.positions c.args.growing.moves.items c.requires.grown c.arrange.new.moves.items c.arrange.ensures.rising c.arrange.ensures.same c.unravelled_satisfies.ensures in
    IfOk-weaker c.made.result (λ m. m ≡ record { states = c.deref.result.now; moves = c.deref-2.result.now }) (Satisfies r.tableau.a r.tableau.b r.tableau.closure)
    (λ m e. subst (Satisfies r.tableau.a r.tableau.b r.tableau.closure) (sym (e ∙ same_parts c.deref.result.now (labels_of r.tableau c.args.growing.positions) c.deref-2.result.now c.arrange.new.moves.items states c.deref-2.ensures.value)) satisfies)
    c.made.ensures
