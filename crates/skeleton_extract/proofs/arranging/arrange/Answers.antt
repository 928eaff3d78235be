use Rattle.skeleton_extract.proofs.Gathering.{AreArranged-more}
use Rattle.skeleton_extract.proofs.arranging.arrange.Goals as goal

pub loop-arc-preserved : goal.loop-arc-preserved
loop-arc-preserved c =
    AreArranged-more c.loop-arc.arc c.args.lists.now c.loop-arc.lists c.arrange_one.new.lists c.loop-arc.invariant c.arrange_one.ensures.size c.arrange_one.ensures.rising c.arrange_one.ensures.same c.arrange_one.ensures.elsewhere
