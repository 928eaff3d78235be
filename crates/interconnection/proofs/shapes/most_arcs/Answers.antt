use Rattle.std.proofs.Common.{arith}
use Rattle.interconnection.proofs.ShapeLaws.{greatest_more}
use Rattle.interconnection.proofs.shapes.most_arcs.Goals as goal

pub loop-p-preserved : goal.loop-p-preserved
loop-p-preserved c =
    let count = rw c.arcs.ensures at c.arcs_from.ensures.count in
    let few = rw c.arcs.ensures at c.arcs_from.ensures.few in
    record {
      most = omega (arith, greatest_more c.args.role.now.arcs c.loop-p.p, c.larger-most.ensures, count, c.loop-p.invariant.most);
      few = omega (arith, c.larger-most.ensures, few, c.loop-p.invariant.few);
    }
