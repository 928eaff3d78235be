use Rattle.pair_structure.proofs.ArcMarks.{table_more}
use Rattle.pair_structure.proofs.arc_table.ArcTable.of.Goals as goal

pub loop-arc-preserved : goal.loop-arc-preserved
loop-arc-preserved c = table_more c.loop-arc.rows c.mark.new.rows c.args.arcs.now c.loop-arc.arc-index _ c.loop-arc-test.true c.mark.ensures.here c.mark.ensures.elsewhere c.loop-arc.invariant
