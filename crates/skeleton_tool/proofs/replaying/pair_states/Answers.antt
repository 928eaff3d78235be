use Rattle.std.proofs.Common.{◌≡◌, length, arith, refl}
use Rattle.interconnection.proofs.EdgeCount.{few_edges}
use Rattle.skeleton_tool.proofs.replaying.pair_states.Goals as goal

pub overflow_cast-edge : goal.overflow_cast-edge
overflow_cast-edge c =
    let net = c.args.system.now.network in
    let lawful = c.network.ensures.system.network in
    let few = few_edges net 64 lawful lawful.degrees in
    let same : length c.edges-count.result.now ≡ length net.edges = rw (c.edges-count.ensures.edges, c.network.ensures.network) refl in
    let within = c.loop-edge-test.true in omega (arith, few, lawful.few_processes, same, within)
