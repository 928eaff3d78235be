use Rattle.std.proofs.Common.{List, Contains, subst, ◌∙◌, slice_index_or}
use Rattle.std.proofs.lemmas.Grind.{get_or_default_zero}
use Rattle.deletion_rules.specs.declared.edges.Arrow.{Arrow}
use Rattle.deletion_rules.proofs.VisitLaws.{ors_begin, ors_end, ors_step}
use Rattle.deletion_rules.proofs.visiting.visit_each.Goals as goal

pub loop-or-init : goal.loop-or-init
loop-or-init c = record { visits = ors_begin c.args.m.now.tableau.now c.args.m.now.lives.now c.args.reached.now c.args.m.now.target c.args.round c.args.arrows.now c.args.ors.now c.args.front.now.marks.items c.args.front.now.nodes.items; cursors = c.requires.cursors }

pub visit_arrows-requires : goal.visit_arrows-requires
visit_arrows-requires c =
    let o = slice_index_or c.args.ors.now c.loop-or.or-index 0 in
    record {
      lives = c.requires.lives;
      reached = c.requires.reached;
      target = c.requires.target;
      arrows = λ arrow there. c.requires.arrows o arrow (c.loop-or.or-index, c.loop-or-test.true, get_or_default_zero c.args.ors.now c.loop-or.or-index o c.loop-or-test.true) (subst (λ (l : List Arrow). Contains l arrow) c.list.ensures there);
      marks = c.loop-or.invariant.visits.long ∙ c.requires.marks;
      cursors = c.loop-or.invariant.cursors;
    }

pub loop-or-preserved : goal.loop-or-preserved
loop-or-preserved c = record {
  visits = ors_step c.args.m.now.tableau.now c.args.m.now.lives.now c.args.reached.now c.args.m.now.target c.args.round c.args.arrows.now c.args.ors.now c.loop-or.or-index c.list.result.now c.args.front.now.marks.items c.loop-or.front.marks.items c.visit_arrows.new.front.marks.items c.args.front.now.nodes.items c.loop-or.front.nodes.items c.visit_arrows.new.front.nodes.items c.loop-or-test.true c.list.ensures c.loop-or.invariant.visits c.in_ok-visit_arrows.ensures.visited;
  cursors = c.in_ok-visit_arrows.ensures.cursors;
}

pub returns : goal.returns
returns c = record { visited = ors_end c.args.m.now.tableau.now c.args.m.now.lives.now c.args.reached.now c.args.m.now.target c.args.round c.args.arrows.now c.args.ors.now c.loop-or.or-index c.args.front.now.marks.items c.loop-or.front.marks.items c.args.front.now.nodes.items c.loop-or.front.nodes.items c.loop-or-test.false c.loop-or.invariant.visits; cursors = c.loop-or.invariant.cursors }
