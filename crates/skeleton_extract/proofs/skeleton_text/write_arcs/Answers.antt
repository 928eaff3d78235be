use Rattle.skeleton_extract.proofs.ArcTexts.{written_all, written_more}
use Rattle.skeleton_extract.proofs.skeleton_text.write_arcs.Goals as goal

pub loop-n-preserved : goal.loop-n-preserved
loop-n-preserved c =
    written_more c.args.own.now c.args.other.now c.args.arcs.now c.args.lists.now c.loop-n.n _ c.args.into.now.items c.loop-n.into.items c.write_arc.new.into.items c.write_commands.new.into.items c.loop-n-test.true c.requires
    c.loop-n.invariant c.in_ok-write_arc.ensures (rw c.list.ensures at c.in_ok-write_commands.ensures)

pub returns : goal.returns
returns c = written_all c.args.own.now c.args.other.now c.args.arcs.now c.args.lists.now c.loop-n.n c.args.into.now.items c.loop-n.into.items c.loop-n-test.false c.loop-n.invariant
