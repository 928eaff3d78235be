use Rattle.std.proofs.Common.{ℕ, List, subst, sym, slice_index_or}
use Rattle.closure_sets.specs.Firsts.{AreFirsts}
use Rattle.closure_sets.specs.Found.{sets_of}
use Rattle.closure_sets.specs.Row.{set_of}
use Rattle.closure_sets.specs.declared.row.Row.{Row}
use Rattle.tableau_graph.specs.TableauParts.{offered}
use Rattle.tableau_graph.proofs.Offered.{nodes_step}
use Rattle.tableau_graph.proofs.children.nodes_at.Goals as goal

pub loop-pair-preserved : goal.loop-pair-preserved
loop-pair-preserved c =
    let pair : ℕ × ℕ = slice_index_or c.args.pairs.now c.loop-pair.pair-index (0, 0) in
    nodes_step c.args.c.now c.args.breadth c.args.pairs.now (set_of c.args.seed.now.words) c.loop-pair.nodes.items c.push_each.new.nodes.items c.deref.result.now c.loop-pair.pair-index (0, 0)
    c.loop-pair-test.true c.loop-pair.invariant
    (subst (λ (l : List Row). AreFirsts (offered c.args.breadth c.args.c.now pair (set_of c.args.seed.now.words)) (sets_of l)) (sym c.deref.ensures.value) c.in_ok-rows.ensures)
    c.in_ok-push_each.ensures
