use Rattle.std.proofs.Common.{◌≡◌, ◌<◌, false, true, length, subst, sym, ap, ◌∙◌}
use Rattle.ctl_form.specs.declared.part.Part.TheVariants.{Until}
use Rattle.closure_sets.specs.ClosureParts.{after}
use Rattle.closure_sets.specs.Full.{Has}
use Rattle.closure_sets.specs.Label.{part_of}
use Rattle.tableau_graph.specs.Graph.{graph_of}
use Rattle.unravel.proofs.Nodes.{kept_within}
use Rattle.unravel.proofs.keeper.falls_by.Goals as goal

pub has_lower-requires : goal.has_lower-requires
has_lower-requires c =
    let t = c.args.ranks.now.tableau in
    let u = c.args.target.member in
    let target = c.requires.target in
    let e = c.next_time-next.ensures.same in
    let has : (graph_of t).row c.args.and c.next_time-next.result ≡ true = sym c.if-not-has_member.ensures in
    let part : part_of t.closure u ≡ Until false false c.args.target.f c.args.target.g = subst (λ all. part_of t.closure u ≡ Until all false c.args.target.f c.args.target.g) c.requires.some target.part in
    let within = kept_within t c.tableau_of.ensures.alive.tableau c.args.and u c.args.target.f c.args.target.g false c.args.side c.requires.and target.member part (subst (λ i. Has ((graph_of t).row c.args.and) i) e has) in
    let same : (graph_of t).next_or c.args.and c.next_time-next.result ≡ (graph_of t).next_or c.args.and (after t.closure c.args.side u) = ap ((graph_of t).next_or c.args.and) e in
    let result = c.next_or-or.ensures ∙ ap (λ x. (graph_of x).next_or c.args.and c.next_time-next.result) c.tableau_of.ensures.tableau ∙ same in
    subst (λ o. o < length t.ors) (sym result) within
