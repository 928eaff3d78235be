use Rattle.std.proofs.Common.{ℕ, List, [], Contains, subst, slice_index_or}
use Rattle.deletion_rules.proofs.ThinningLaws.{loses_then}
use Rattle.deletion_rules.proofs.thinning.lose_parents.Goals as goal

pub lose_each-requires-clause-parents : goal.lose_each-requires-clause-parents
lose_each-requires-clause-parents c = λ o there. c.requires.parents (slice_index_or c.args.nodes.now c.loop-node.node-index 0) o (subst (λ (l : List ℕ). Contains l o) c.list.ensures there)

pub loop-node-preserved : goal.loop-node-preserved
loop-node-preserved c = loses_then c.args.t.now c.args.thinning.now c.loop-node.thinning c.lose_each.new.thinning [] c.loop-node.ors.items c.lose_each.new.ors.items c.loop-node.invariant c.in_ok-lose_each.ensures
