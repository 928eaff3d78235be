use Rattle.skeleton_extract.proofs.ArcNumbering.{IsNumberingBelow-more}
use Rattle.skeleton_extract.proofs.arc_numbers.ArcNumbers.of.Goals as goal

pub loop-n-preserved : goal.loop-n-preserved
loop-n-preserved c = IsNumberingBelow-more c.loop-n.rows c.put.new.rows c.args.arcs.now c.loop-n.n c.loop-n-test.true c.requires.apart c.put.ensures.here c.put.ensures.elsewhere c.loop-n.invariant
