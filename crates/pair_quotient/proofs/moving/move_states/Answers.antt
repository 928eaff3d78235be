use Rattle.std.proofs.Common.{◌∙◌, inl, inr}
use Rattle.pair_quotient.proofs.MovingLaws.{HaveMoved-stays, HaveMoved-goes}
use Rattle.pair_quotient.proofs.moving.move_states.Goals as goal

pub loop-place-preserved : goal.loop-place-preserved
loop-place-preserved c = record {
  moved = elim c.in_ok-move_state.ensures.moves [
    | inl stays ↦ HaveMoved-stays _ c.args.states.now c.args.targets.now c.loop-place.place _ _ _ _ _ _ _ stays c.loop-place.invariant.moved
    | inr goes ↦ HaveMoved-goes _ c.args.states.now c.args.targets.now c.loop-place.place _ _ _ _ _ _ _ c.loop-place-test.true (c.requires.states c.loop-place.place 0 c.loop-place-test.true) c.requires.agreed goes c.loop-place.invariant.moved
  ];
  leaders = c.move_state.ensures.leaders ∙ c.loop-place.invariant.leaders;
}
