use Rattle.std.proofs.Common.{ℕ, [], List, Contains, subst, arith, slice_index_or}
use Rattle.deletion_rules.proofs.ReachingLaws.{parents_begin, parents_end, parents_step}
use Rattle.deletion_rules.proofs.reaching.reach.Goals as goal

pub loop-node-init : goal.loop-node-init
loop-node-init c = rw c.new-fresh.ensures.items (parents_begin c.args.parents.now c.args.nodes.now c.args.reached.now [])

pub reach_each-requires : goal.reach_each-requires
reach_each-requires c = λ o there.
    let lt = c.requires.parents (slice_index_or c.args.nodes.now c.loop-node.node-index 0) o (subst (λ (l : List ℕ). Contains l o) c.list.ensures there) in
    let long = c.loop-node.invariant.long in
    omega (arith, lt, long)

pub loop-node-preserved : goal.loop-node-preserved
loop-node-preserved c = parents_step c.args.parents.now c.args.nodes.now c.loop-node.node-index c.list.result.now c.args.reached.now c.loop-node.reached c.reach_each.new.reached [] c.loop-node.fresh.items c.reach_each.new.fresh.items c.loop-node-test.true c.list.ensures c.loop-node.invariant c.in_ok-reach_each.ensures

pub returns : goal.returns
returns c = parents_end c.args.parents.now c.args.nodes.now c.loop-node.node-index c.args.reached.now c.loop-node.reached [] c.loop-node.fresh.items c.loop-node-test.false c.loop-node.invariant
