use Rattle.std.proofs.Common.{◌<◌, arith}
use Rattle.interconnection.specs.Graph.{degree_of}
use Rattle.interconnection.proofs.ShapeLaws.{first_shape_is}
use Rattle.interconnection.proofs.network.Network.first_shape.Goals as goal

pub returns : goal.returns
returns c =
    let first = first_shape_is c.args.self.now c.args.k c.leaf_count-count.result c.labels.result.now c.labels.ensures.same c.labels.ensures.sorted c.leaf_count-count.ensures.count (omega (arith, c.leaf_count-count.ensures.within, c.labels.ensures.count)) in
    let some : 0 < degree_of c.args.self.now.edges c.args.k = omega (arith, c.leaf_count-count.ensures.within) in
    (some, rw (c.role_of-role.ensures.role, c.in_ok-leaves.ensures.items) first)
