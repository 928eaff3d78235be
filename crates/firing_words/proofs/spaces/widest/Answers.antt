use Rattle.std.proofs.Common.{◌≡◌, ◌≤◌, length, arith, ◌∙◌, ap}
use Rattle.interconnection.specs.Graph.{degree_of}
use Rattle.interconnection.specs.Network.{NetworkParts}
use Rattle.firing_words.proofs.Widths.{most_more}
use Rattle.firing_words.proofs.spaces.widest.Goals as goal
use Rattle.firing_words.proofs.spaces.widest.Goals.{then-degree-most, else-degree-most}

pub loop-k-preserved : goal.loop-k-preserved
loop-k-preserved c =
    let sys = c.args.system.now in
    let k = c.loop-k.k in
    let i = c.loop-k.invariant in
    let net = c.network-network.ensures.network in
    let degree : length c.neighbours-degree.result.now ≡ degree_of sys.network.edges k = c.neighbours-degree.ensures.degree ∙ ap (λ (n : NetworkParts). degree_of n.edges k) net in
    let within = c.processes-k-end.ensures.network.degrees k (omega (arith, c.loop-k-test.true, c.loop-k.auto.k-end, ap length c.processes-k-end.ensures.processes)) in
    let few : degree_of sys.network.edges k ≤ 64 = omega (arith, within, ap (λ (n : NetworkParts). degree_of n.edges k) net) in
    elim c.if-degree-most.branch [
      | then-degree-most w ↦ (most_more (degree_of sys.network.edges) k c.loop-k.most c.if-degree-most.most i.0 (omega (arith, w.most-is, w.if-degree-most.true)) (omega (arith, w.most-is, degree)), omega (arith, w.most-is, degree, few))
      | else-degree-most w ↦ (most_more (degree_of sys.network.edges) k c.loop-k.most c.if-degree-most.most i.0 (omega (arith, w.most-is)) (omega (arith, w.most-is, degree, w.if-degree-most.false)), omega (arith, w.most-is, i.1))
    ]

pub returns-clause-each : goal.returns-clause-each
returns-clause-each c k lt =
    let ends = ap length c.processes-k-end.ensures.processes in
    let net = ap (λ (n : NetworkParts). length n.processes) c.network-network.ensures.network in
    c.loop-k.invariant.0 k (omega (arith, lt, c.loop-k-test.false, c.loop-k.auto.k-end, ends, net))
