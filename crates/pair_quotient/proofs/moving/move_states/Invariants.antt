use Rattle.std.proofs.Common.{◌≡◌, length}
use Rattle.pair_quotient.specs.inside.Moving.{HaveMoved}
use Rattle.pair_quotient.proofs.moving.move_states.Given as goal

abbrev pub invariant-loop-place : goal.invariant-loop-place
invariant-loop-place l = record {
  moved : HaveMoved (length l.initial.blocks.members) l.states l.targets l.place l.initial.blocks.classes.items l.blocks.classes.items l.blocks.members l.moved.items;
  leaders : l.blocks.leaders.items ≡ l.initial.blocks.leaders.items;
}
