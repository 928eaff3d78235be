use Rattle.std.proofs.Common.{◌≡◌, ◌≤◌, ◌+◌, ℕ, List, [], length, subst, arith}
use Rattle.deletion_rules.specs.Marks.{open_count}
use Rattle.deletion_rules.specs.inside.Spread.{IsArrowTo, IsParentOf, Reaching, Visits}
use Rattle.deletion_rules.proofs.SpreadLaws.{arrow_reaches, cursors_stay, parent_below, spread_done, spread_next}
use Rattle.deletion_rules.proofs.marking.spread.Goals as goal

pub reach-requires : goal.reach-requires
reach-requires c = record { parents = parent_below c.args.m.now.tableau.now c.tell_rules.ensures c.args.m.now.lives.now c.requires.lives c.args.m.now.target c.requires.target (c.loop-alloc.round + 1) c.loop-alloc.front.marks.items c.loop-alloc.reached c.loop-alloc.front.nodes.items c.loop-alloc.invariant.spread c.args.edges.now.parents c.args.edges.now.arrows c.requires.edges }

pub visit_each-requires-clause-arrows : goal.visit_each-requires-clause-arrows
visit_each-requires-clause-arrows c =
    let reaching = subst (λ (nodes : List ℕ). Reaching (IsParentOf c.args.edges.now.parents nodes) c.loop-alloc.reached [] c.reach.new.reached c.in_ok-ors.ors.items) c.deref.ensures.value c.in_ok-ors.ensures in
    rw c.deref-in-loop-alloc.ensures.value (arrow_reaches c.args.m.now.tableau.now c.tell_rules.ensures c.args.m.now.lives.now c.requires.lives c.args.m.now.target c.requires.target (c.loop-alloc.round + 1) c.loop-alloc.front.marks.items c.loop-alloc.reached c.loop-alloc.front.nodes.items c.loop-alloc.invariant.spread c.args.edges.now.parents c.args.edges.now.arrows c.requires.edges c.reach.new.reached c.in_ok-ors.ors.items reaching)

pub visit_each-requires-clause-cursors : goal.visit_each-requires-clause-cursors
visit_each-requires-clause-cursors c =
    let reaching = subst (λ (nodes : List ℕ). Reaching (IsParentOf c.args.edges.now.parents nodes) c.loop-alloc.reached [] c.reach.new.reached c.in_ok-ors.ors.items) c.deref.ensures.value c.in_ok-ors.ensures in
    cursors_stay c.args.m.now.tableau.now c.tell_rules.ensures c.args.m.now.lives.now c.requires.lives c.args.m.now.target c.requires.target (c.loop-alloc.round + 1) c.loop-alloc.front.marks.items c.loop-alloc.reached c.loop-alloc.front.nodes.items c.loop-alloc.invariant.spread c.args.edges.now.parents c.args.edges.now.arrows c.requires.edges c.reach.new.reached c.in_ok-ors.ors.items reaching c.loop-alloc.front.cursors.items c.loop-alloc.invariant.cursors

pub loop-alloc-preserved : goal.loop-alloc-preserved
loop-alloc-preserved c =
    let reaching = subst (λ (nodes : List ℕ). Reaching (IsParentOf c.args.edges.now.parents nodes) c.loop-alloc.reached [] c.reach.new.reached c.in_ok-ors.ors.items) c.deref.ensures.value c.in_ok-ors.ensures in
    let visits = subst (λ (ors : List ℕ). Visits c.args.m.now.tableau.now c.args.m.now.lives.now c.reach.new.reached c.args.m.now.target (c.loop-alloc.round + 1) (IsArrowTo c.args.edges.now.arrows ors) c.loop-alloc.front.marks.items [] c.visit_each.new.front.marks.items c.visit_each.new.front.nodes.items) c.deref-in-loop-alloc.ensures.value
    (subst (λ (old : List ℕ). Visits c.args.m.now.tableau.now c.args.m.now.lives.now c.reach.new.reached c.args.m.now.target (c.loop-alloc.round + 1) (IsArrowTo c.args.edges.now.arrows c.deref-in-loop-alloc.result.now) c.loop-alloc.front.marks.items old c.visit_each.new.front.marks.items c.visit_each.new.front.nodes.items) c.new.ensures.items c.in_ok-visit_each.ensures.visited) in
    record {
      spread = spread_next c.args.m.now.tableau.now c.tell_rules.ensures c.args.m.now.lives.now c.requires.lives c.args.m.now.target c.requires.target (c.loop-alloc.round + 1) c.loop-alloc.front.marks.items c.loop-alloc.reached c.loop-alloc.front.nodes.items c.loop-alloc.invariant.spread c.args.edges.now.parents c.args.edges.now.arrows c.requires.edges c.reach.new.reached c.in_ok-ors.ors.items reaching c.visit_each.new.front.marks.items c.visit_each.new.front.nodes.items visits;
      cursors = c.in_ok-visit_each.ensures.cursors;
      few = (let fewer : open_count c.visit_each.new.front.marks.items + length c.visit_each.new.front.nodes.items ≡ open_count c.loop-alloc.front.marks.items + 0 = visits.fewer in let test = c.loop-alloc-test.true in let e = c.len.ensures in let few = c.loop-alloc.invariant.few in omega (arith, fewer, test, e, few));
    }

pub returns : goal.returns
returns c =
    let empty : length c.loop-alloc.front.nodes.items ≤ 0 = (let test = c.loop-alloc-test.false in let e = c.len.ensures in omega (arith, test, e)) in
    spread_done c.args.m.now.tableau.now c.tell_rules.ensures c.args.m.now.lives.now c.requires.lives c.args.m.now.target c.requires.target (c.loop-alloc.round + 1) c.loop-alloc.front.marks.items c.loop-alloc.reached c.loop-alloc.front.nodes.items c.loop-alloc.invariant.spread empty
