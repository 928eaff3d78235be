use Rattle.std.proofs.Common.{◌≡◌, false, length, replicate, ap, ◌∙◌}
use Rattle.std.proofs.lemmas.List.{length-replicate}
use Rattle.deletion_rules.proofs.SpreadLaws.{none_reached, spread_first}
use Rattle.deletion_rules.proofs.marking.mark.Goals as goal

pub spread-requires-clause-spread : goal.spread-requires-clause-spread
spread-requires-clause-spread c =
    let t = c.args.m.now.tableau.now in
    let same : c.deref_mut.result.now ≡ replicate (length c.ors.result.now) false = c.deref_mut.ensures.value ∙ c.in_ok-reached.ensures in
    let long : length c.deref_mut.result.now ≡ length t.ors = ap length same ∙ length-replicate (length c.ors.result.now) false ∙ ap length c.ors.ensures.ors in
    spread_first t c.ors.ensures.tableau c.args.m.now.lives.now c.requires.lives c.args.m.now.target (c.tableau_is_graph.ensures t c.ors.ensures.tableau) c.in_ok-front.front.marks.items c.deref_mut.result.now c.in_ok-front.front.nodes.items c.in_ok-front.ensures.first (none_reached c.deref_mut.result.now (length c.ors.result.now) same) long
