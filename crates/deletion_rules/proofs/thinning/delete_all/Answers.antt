use Rattle.std.proofs.Common.{List, [], Contains, subst, slice_index_or}
use Rattle.deletion_rules.specs.declared.edges.Arrow.{Arrow}
use Rattle.deletion_rules.proofs.ThinningLaws.{deletes_then, losing_still}
use Rattle.deletion_rules.proofs.Within.{Contains-at}
use Rattle.deletion_rules.proofs.thinning.delete_all.Goals as goal

pub delete_each-requires-clause-arrows : goal.delete_each-requires-clause-arrows
delete_each-requires-clause-arrows c = λ arrow there. losing_still c.args.t.now c.args.thinning.now c.loop-or.thinning [] c.loop-or.nodes.items arrow c.loop-or.invariant (c.requires.arrows (slice_index_or c.args.ors.now c.loop-or.or-index 0) arrow (Contains-at c.args.ors.now c.loop-or.or-index c.loop-or-test.true) (subst (λ (l : List Arrow). Contains l arrow) c.list.ensures there))

pub loop-or-preserved : goal.loop-or-preserved
loop-or-preserved c = deletes_then c.args.t.now c.args.thinning.now c.loop-or.thinning c.delete_each.new.thinning [] c.loop-or.nodes.items c.delete_each.new.nodes.items c.loop-or.invariant c.in_ok-delete_each.ensures
