use Rattle.std.proofs.Common.{◌≡◌, ◌<◌, length, arith, refl, ap, ℕ, List, subst}
use Rattle.interconnection.specs.Network.{NetworkParts}
use Rattle.waitfor_check.specs.inside.Begins.{AreBeginsBelow}
use Rattle.waitfor_check.proofs.Beginnings.{few_edges}
use Rattle.waitfor_check.proofs.begins.begins_of.Goals as goal

pub overflow_cast-e : goal.overflow_cast-e
overflow_cast-e c =
    let net = c.args.system.now.network in
    let few = few_edges net c.network.ensures.system.network in
    let same : length c.edges-e-end.result.now ≡ length net.edges = rw (c.edges-e-end.ensures.edges, c.network.ensures.network) refl in
    let within = c.loop-e-test.true in
    omega arith

pub returns : goal.returns
returns c =
    let size : length c.edges-e-end.result.now ≡ length c.args.system.now.network.edges = rw (c.edges-e-end.ensures.edges, c.network.ensures.network) refl in
    let end : c.loop-e.e ≡ length c.args.system.now.network.edges = omega (arith, size, c.loop-e-test.false, c.loop-e.auto.e-end) in
    subst (λ (n : ℕ). AreBeginsBelow c.args.system.now n c.loop-e.begins.items) end c.loop-e.invariant
