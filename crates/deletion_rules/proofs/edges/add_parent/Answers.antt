use Rattle.deletion_rules.proofs.EdgeLaws.{child_begin, child_end, child_step}
use Rattle.deletion_rules.proofs.Within.{child_below}
use Rattle.deletion_rules.proofs.edges.add_parent.Goals as goal

pub loop-child-init : goal.loop-child-init
loop-child-init c = record { items = c.children-child-items.ensures; adds = child_begin c.args.t.now c.args.or c.children-child-items.result.now c.args.parents.now c.requires.before }

pub loop-child-preserved : goal.loop-child-preserved
loop-child-preserved c = record {
  items = c.children-child-items.ensures;
  adds = child_step c.args.t.now c.args.or c.loop-child.child-index c.children-child-items.result.now c.loop-child.parents c.push.new.self c.loop-child-test.true c.loop-child.invariant.adds (record { size = c.in_ok-push.ensures.size (child_below c.args.t.now c.tell_rules.ensures c.args.or c.loop-child.child-index _ c.children-child-items.result.now c.requires.or c.children-child-items.ensures c.loop-child-test.true c.loop-child.invariant.adds.long); here = c.in_ok-push.ensures.here; elsewhere = c.in_ok-push.ensures.elsewhere });
}

pub returns : goal.returns
returns c = child_end c.args.t.now c.args.or c.loop-child.child-index c.children-child-items.result.now c.loop-child.parents c.children-child-items.ensures c.loop-child-test.false c.loop-child.invariant.adds
