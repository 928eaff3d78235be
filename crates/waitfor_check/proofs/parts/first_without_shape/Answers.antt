use Rattle.std.proofs.Common.{rules, ◌<◌, ◌↔◌, IsTrue, below_more, subst}
use Rattle.interconnection.specs.Graph.{degree_of}
use Rattle.interconnection.specs.Network.{NetworkParts}
use Rattle.conjunctive_compose.specs.System.{process_count}
use Rattle.waitfor_check.specs.inside.ShapeKeys.{HasAllKeys}
use Rattle.waitfor_check.proofs.ShapeStars.{keys_from_shapes, shapes_from_keys}
use Rattle.waitfor_check.proofs.parts.first_without_shape.Goals as goal

pub returns-then-not-branch : goal.returns-then-not-branch
returns-then-not-branch c =
    let lt : c.loop-k.k < process_count c.args.system.now = search rules in
    let told = subst (λ (net : NetworkParts). IsTrue c.in_ok-has_all_keys.field-0 ↔ (0 < degree_of net.edges c.loop-k.k → HasAllKeys net c.loop-k.k c.keys.result.now)) c.network-in-loop-k.ensures.network c.in_ok-has_all_keys.ensures in
    (lt, λ has. let all = told.1 (λ some. keys_from_shapes c.args.system.now.network c.loop-k.k c.args.certificate.now c.keys.result.now c.keys.ensures (has some)) in let not = c.if-not-branch.true in cc, c.loop-k.invariant)

pub loop-k-preserved : goal.loop-k-preserved
loop-k-preserved c =
    let told = subst (λ (net : NetworkParts). IsTrue c.in_ok-has_all_keys.field-0 ↔ (0 < degree_of net.edges c.loop-k.k → HasAllKeys net c.loop-k.k c.keys.result.now)) c.network-in-loop-k.ensures.network c.in_ok-has_all_keys.ensures in
    below_more _ _ c.loop-k.invariant (λ some. shapes_from_keys c.args.system.now.network c.loop-k.k c.args.certificate.now c.keys.result.now c.keys.ensures (told.0 c.if-not-branch.false some))
