use Rattle.std.proofs.Common.{List, false, subst}
use Rattle.std.proofs.lemmas.List.{take_all}
use Rattle.pair_structure.specs.declared.side.LocalArc.{LocalArc}
use Rattle.tableau_graph.specs.Growing.{AreEnds}
use Rattle.tableau_graph.proofs.Ends.{ends_step}
use Rattle.tableau_graph.proofs.children.ends_of.Goals as goal

pub loop-arc-preserved : goal.loop-arc-preserved
loop-arc-preserved c =
    ends_step c.args.side c.args.pair c.args.arcs.now c.loop-arc.ends.items c.push_some.new.items.items c.end_of.result c.loop-arc.arc-index (record { from = 0; to = 0; free = false })
    c.loop-arc-test.true c.loop-arc.invariant c.end_of.ensures c.in_ok-push_some.ensures.pushed

pub returns : goal.returns
returns c = subst (λ (l : List LocalArc). AreEnds c.args.side c.args.pair l c.loop-arc.ends.items) (take_all c.loop-arc.arc-index c.args.arcs.now c.loop-arc-test.false) c.loop-arc.invariant
