use Rattle.std.proofs.Common.{◌<◌, ℕ, true, length, replicate, ap, ◌∙◌, arith}
use Rattle.std.proofs.lemmas.List.{length-replicate}
use Rattle.tableau_graph.specs.Graph.{graph_of}
use Rattle.deletion_rules.specs.Marks.{living_count}
use Rattle.deletion_rules.proofs.Kept.{living_at_most, met_first, round_last, round_less, round_long, round_met}
use Rattle.deletion_rules.proofs.lasting.what_lasts.Goals as goal

pub loop-lives-init : goal.loop-lives-init
loop-lives-init c =
    let t = c.args.t.now in
    let same = c.in_ok-flags.ensures ∙ ap (λ (n : ℕ). replicate n true) (ap length c.ands-nodes.ensures.ands) in
    record { long = c.in_ok-lives.ensures.long ∙ ap length same ∙ length-replicate (length t.ands) true; met = λ whole. c.in_ok-lives.ensures.met whole (met_first t.a t.b t.closure (graph_of t) c.in_ok-flags.field-0.items same) }

pub returns-then-living_count : goal.returns-then-living_count
returns-then-living_count c = round_last c.args.t.now c.ands-nodes.ensures.tableau c.loop-lives.lives.items c.in_ok-left.left.items c.deref.result.now c.deref-in-loop-lives-2.result.now c.in_ok-table.table.items c.deref-in-loop-lives-3.result.now c.loop-lives.invariant.long c.loop-lives.invariant.met c.deref.ensures.value c.deref-in-loop-lives-2.ensures.value c.deref-in-loop-lives-3.ensures.value c.in_ok-table.ensures c.in_ok-left.ensures c.living_count.result c.living_count-in-loop-lives.result c.deref-in-loop-lives-4.result.now c.deref-in-loop-lives-5.result.now c.living_count.ensures c.deref-in-loop-lives-4.ensures.value c.living_count-in-loop-lives.ensures c.deref-in-loop-lives-5.ensures.value c.if-living_count.true (c.tableau_is_graph.ensures c.args.t.now c.ands-nodes.ensures.tableau)

pub loop-lives-smaller : goal.loop-lives-smaller
loop-lives-smaller c =
    let less = round_less c.args.t.now c.ands-nodes.ensures.tableau c.loop-lives.lives.items c.in_ok-left.left.items c.deref.result.now c.deref-in-loop-lives-2.result.now c.in_ok-table.table.items c.deref-in-loop-lives-3.result.now c.loop-lives.invariant.long c.loop-lives.invariant.met c.deref.ensures.value c.deref-in-loop-lives-2.ensures.value c.deref-in-loop-lives-3.ensures.value c.in_ok-table.ensures c.in_ok-left.ensures c.living_count.result c.living_count-in-loop-lives.result c.deref-in-loop-lives-4.result.now c.deref-in-loop-lives-5.result.now c.living_count.ensures c.deref-in-loop-lives-4.ensures.value c.living_count-in-loop-lives.ensures c.deref-in-loop-lives-5.ensures.value c.if-living_count.false in
    let most = living_at_most c.args.t.now c.in_ok-left.left.items c.in_ok-lives-2.lives.items c.in_ok-lives-2.ensures in
    let fall : living_count c.in_ok-lives-2.lives.items < living_count c.loop-lives.lives.items = omega (arith, less, most) in
    fall

pub loop-lives-preserved : goal.loop-lives-preserved
loop-lives-preserved c = record {
  long = c.in_ok-lives-2.ensures.long ∙ round_long c.args.t.now c.ands-nodes.ensures.tableau c.loop-lives.lives.items c.in_ok-left.left.items c.deref.result.now c.deref-in-loop-lives-2.result.now c.in_ok-table.table.items c.deref-in-loop-lives-3.result.now c.loop-lives.invariant.long c.loop-lives.invariant.met c.deref.ensures.value c.deref-in-loop-lives-2.ensures.value c.deref-in-loop-lives-3.ensures.value c.in_ok-table.ensures c.in_ok-left.ensures;
  met = λ whole. c.in_ok-lives-2.ensures.met whole (round_met c.args.t.now c.ands-nodes.ensures.tableau c.loop-lives.lives.items c.in_ok-left.left.items c.deref.result.now c.deref-in-loop-lives-2.result.now c.in_ok-table.table.items c.deref-in-loop-lives-3.result.now c.loop-lives.invariant.long c.loop-lives.invariant.met c.deref.ensures.value c.deref-in-loop-lives-2.ensures.value c.deref-in-loop-lives-3.ensures.value c.in_ok-table.ensures c.in_ok-left.ensures (c.tableau_is_graph.ensures c.args.t.now c.ands-nodes.ensures.tableau) (c.tableau_covers.ensures c.args.t.now c.ands-nodes.ensures.tableau) whole);
}
