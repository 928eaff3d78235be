use Rattle.std.proofs.Common.{◌∙◌, slice_index_or}
use Rattle.std.proofs.lemmas.List.{get_or_default}
use Rattle.deletion_rules.specs.inside.Edges.{arrow_of}
use Rattle.deletion_rules.specs.declared.edges.Arrow.{Arrow}
use Rattle.deletion_rules.proofs.VisitLaws.{arrows_begin, arrows_end, arrows_step}
use Rattle.deletion_rules.proofs.visiting.visit_arrows.Goals as goal

pub loop-arrow-init : goal.loop-arrow-init
loop-arrow-init c = record { visits = arrows_begin c.args.m.now.tableau.now c.args.m.now.lives.now c.args.reached.now c.args.m.now.target c.args.round c.args.arrows.now c.args.front.now.marks.items c.args.front.now.nodes.items; cursors = c.requires.cursors }

pub visit-requires : goal.visit-requires
visit-requires c =
    let arrow : Arrow = slice_index_or c.args.arrows.now c.loop-arrow.arrow-index (arrow_of 0 0) in
    record {
      lives = c.requires.lives;
      reached = c.requires.reached;
      target = c.requires.target;
      arrow = c.requires.arrows arrow (c.loop-arrow.arrow-index, c.loop-arrow-test.true, get_or_default c.args.arrows.now c.loop-arrow.arrow-index arrow (arrow_of 0 0) c.loop-arrow-test.true);
      marks = c.loop-arrow.invariant.visits.long ∙ c.requires.marks;
      cursors = c.loop-arrow.invariant.cursors;
    }

pub loop-arrow-preserved : goal.loop-arrow-preserved
loop-arrow-preserved c =
    let arrow : Arrow = slice_index_or c.args.arrows.now c.loop-arrow.arrow-index (arrow_of 0 0) in
    record {
      visits = arrows_step c.args.m.now.tableau.now c.args.m.now.lives.now c.args.reached.now c.args.m.now.target c.args.round c.args.arrows.now c.loop-arrow.arrow-index arrow c.args.front.now.marks.items c.loop-arrow.front.marks.items c.visit.new.front.marks.items c.args.front.now.nodes.items c.loop-arrow.front.nodes.items c.visit.new.front.nodes.items c.loop-arrow-test.true (get_or_default c.args.arrows.now c.loop-arrow.arrow-index arrow (arrow_of 0 0) c.loop-arrow-test.true) c.loop-arrow.invariant.visits c.in_ok-visit.ensures.visited;
      cursors = c.in_ok-visit.ensures.cursors;
    }

pub returns : goal.returns
returns c = record { visited = arrows_end c.args.m.now.tableau.now c.args.m.now.lives.now c.args.reached.now c.args.m.now.target c.args.round c.args.arrows.now c.loop-arrow.arrow-index c.args.front.now.marks.items c.loop-arrow.front.marks.items c.args.front.now.nodes.items c.loop-arrow.front.nodes.items c.loop-arrow-test.false c.loop-arrow.invariant.visits; cursors = c.loop-arrow.invariant.cursors }
