use Rattle.pair_structure.proofs.Ordinals.{IsIndexBelow-more}
use Rattle.pair_structure.proofs.label_index.LabelIndex.of.Goals as goal

pub loop-s-preserved : goal.loop-s-preserved
loop-s-preserved c = rw (c.in_ok-push.ensures.items, c.list.ensures)
    (IsIndexBelow-more c.args.labels.now c.loop-s.s c.loop-s.ordinals.items c.loop-s.lists c.push-in-loop-s.new.self c.loop-s-test.true c.loop-s.invariant c.in_ok-push-2.ensures.here c.in_ok-push-2.ensures.elsewhere)
