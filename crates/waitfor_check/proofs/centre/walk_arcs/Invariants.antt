use Rattle.std.proofs.Common.{◌≤◌, length}
use Rattle.std.specs.List.{flat_map, range_with_len}
use Rattle.waitfor_check.specs.Steps.{steps_on}
use Rattle.waitfor_check.specs.inside.Walk.{AreMembers, HasRoom}
use Rattle.waitfor_check.proofs.centre.walk_arcs.Given as goal

abbrev pub invariant-loop-arc : goal.invariant-loop-arc
invariant-loop-arc l = record {
  members : AreMembers l.star.members (flat_map (steps_on l.system l.star.shape l.states) (range_with_len 0 l.arc)) l.count;
  few : l.count ≤ length l.star.members;
  room : HasRoom (length l.star.shape.leaves) l.room;
}
