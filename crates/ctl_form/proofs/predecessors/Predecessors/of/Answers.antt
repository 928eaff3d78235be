use Rattle.std.proofs.Common.{◌≡◌, ap, subst, length, arith}
use Rattle.ctl_form.specs.inside.Predecessors.{AddsSources}
use Rattle.ctl_form.specs.Predecessors.{ArePartsOf}
use Rattle.ctl_form.proofs.MovePlaces.{has_move_at}
use Rattle.ctl_form.proofs.PredecessorSteps.{ArePartsOf-push}
use Rattle.ctl_form.proofs.predecessors.Predecessors.of.Goals as goal

pub linked-requires : goal.linked-requires
linked-requires c = rw (c.moves-moves.ensures.moves, c.states-states.ensures.states) (λ j lt. c.states-states.ensures.goes_on.within _ _ _ (has_move_at c.args.m.now j lt))

pub loop-state-preserved : goal.loop-state-preserved
loop-state-preserved c =
    rw c.in_ok-push_state.ensures.begins (ArePartsOf-push _ _ _ _ _ c.loop-state.invariant (subst (λ moves. AddsSources moves c.loop-state.state 0 c.loop-state.made.sources.items c.push_state.new.self.sources.items) c.moves-moves.ensures.moves c.in_ok-push_state.ensures.sources))

pub returns : goal.returns
returns c =
    let states = ap length c.states-states.ensures.states in
    let all : c.loop-state.state ≡ length c.args.m.now.states = omega (arith, states, c.loop-state-test.false, c.loop-state.auto.state-end) in
    subst (λ n. ArePartsOf c.args.m.now n c.loop-state.made.begins.items c.loop-state.made.sources.items) all c.loop-state.invariant
