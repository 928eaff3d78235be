use Rattle.std.proofs.Common.{◌≤◌, ◌-◌, ◌^◌, length}
use Rattle.unravel.specs.inside.Growing.{IsGrown}
use Rattle.unravel.proofs.growing.grown.Given as goal

abbrev pub invariant-loop-state : goal.invariant-loop-state
invariant-loop-state l = record {
  within : l.state ≤ length l.growing.positions;
  grown : IsGrown l.ranks l.targets l.state 0 l.growing.positions l.growing.moves.items;
}

abbrev pub decreases-loop-state : goal.decreases-loop-state
decreases-loop-state l = 2 ^ 64 - l.state
