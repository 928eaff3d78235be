use Rattle.std.proofs.Common.{slice_index_or}
use Rattle.std.proofs.lemmas.List.{get_or_default}
use Rattle.deletion_rules.specs.inside.Edges.{arrow_of}
use Rattle.deletion_rules.specs.declared.edges.Arrow.{Arrow}
use Rattle.deletion_rules.proofs.ThinningLaws.{deletes_then, losing_still}
use Rattle.deletion_rules.proofs.thinning.delete_each.Goals as goal

pub delete-requires-clause-arrow : goal.delete-requires-clause-arrow
delete-requires-clause-arrow c =
    let arrow : Arrow = slice_index_or c.args.arrows.now c.loop-arrow.arrow-index (arrow_of 0 0) in
    losing_still c.args.t.now c.args.thinning.now c.loop-arrow.thinning c.args.nodes.now.items c.loop-arrow.nodes.items arrow c.loop-arrow.invariant (c.requires.arrows arrow (c.loop-arrow.arrow-index, c.loop-arrow-test.true, get_or_default c.args.arrows.now c.loop-arrow.arrow-index arrow (arrow_of 0 0) c.loop-arrow-test.true))

pub loop-arrow-preserved : goal.loop-arrow-preserved
loop-arrow-preserved c = deletes_then c.args.t.now c.args.thinning.now c.loop-arrow.thinning c.delete.new.thinning c.args.nodes.now.items c.loop-arrow.nodes.items c.delete.new.nodes.items c.loop-arrow.invariant c.in_ok-delete.ensures
