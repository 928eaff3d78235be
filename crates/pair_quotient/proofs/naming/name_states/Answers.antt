use Rattle.std.proofs.Common.{◌≡◌, arith, subst, length}
use Rattle.pair_quotient.specs.inside.Naming.{IsNamed}
use Rattle.pair_quotient.specs.inside.Splitting.{AreTargets}
use Rattle.pair_quotient.proofs.TargetLaws.{AreTargets-next, AreTargets-none}
use Rattle.pair_quotient.proofs.naming.name_states.Goals as goal

pub loop-state-init : goal.loop-state-init
loop-state-init c = AreTargets-none _ _ _ _ _ _ c.in_ok-targets.ensures.items c.requires.names

pub loop-state-preserved : goal.loop-state-preserved
loop-state-preserved c =
    let next : c.len-next.result ≡ length c.loop-state.leaders.items = omega (arith, c.len-next.ensures, c.loop-state.leaders.ok) in
    AreTargets-next c.args.m.now c.args.classes.now _ _ c.args.states.now c.loop-state.state-index c.loop-state.leaders.items c.loop-state.names c.loop-state.targets.items _ _ _ c.in_ok-key.key c.in_ok-block.block
    c.loop-state.invariant c.in_ok-key.ensures (subst (λ n. IsNamed c.loop-state.names c.in_ok-key.key n c.name_key.new.names c.in_ok-block.block) next c.in_ok-block.ensures) c.in_ok-lead.ensures c.in_ok-push.ensures.items

pub returns : goal.returns
returns c =
    let end : c.loop-state.state-index ≡ length c.args.states.now = omega (arith, c.loop-state-test.false, c.loop-state.auto.state-index-end) in
    subst (λ n. AreTargets c.args.m.now c.args.classes.now c.args.leaders.now.items c.args.names.now c.args.states.now n c.loop-state.leaders.items c.loop-state.names c.loop-state.targets.items) end c.loop-state.invariant
