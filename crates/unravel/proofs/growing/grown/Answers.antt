use Rattle.std.proofs.Common.{◌≡◌, List, length, arith, ap, subst}
use Rattle.deletion_rules.specs.declared.position.Position.{Position}
use Rattle.unravel.specs.inside.Growing.{IsGrown}
use Rattle.unravel.proofs.growing.grown.Goals as goal

pub returns : goal.returns
returns c =
    let same : length c.nodes.result.now ≡ length c.loop-state.growing.positions = ap (λ (ps : List Position). length ps) c.nodes.ensures.same in
    let e : c.loop-state.state ≡ length c.loop-state.growing.positions = omega (arith, same) in
    subst (λ s. IsGrown c.args.ranks.now c.args.targets.now s 0 c.loop-state.growing.positions c.loop-state.growing.moves.items) e c.loop-state.invariant.grown
