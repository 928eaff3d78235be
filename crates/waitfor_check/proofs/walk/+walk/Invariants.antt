use Rattle.std.proofs.Common.{◌≡◌, ◌≤◌, ◌-◌, ◌+◌, [], length, get_or, take, drop}
use Rattle.std.specs.List.{flat_map}
use Rattle.waitfor_check.specs.inside.Walk.{AreMembers}
use Rattle.waitfor_check.proofs.Distinct.{block}
use Rattle.waitfor_check.proofs.walk.+walk.Given as goal

abbrev pub decreases-walk : goal.decreases-walk
decreases-walk l = length l.lists.now - l.place

abbrev pub invariant-loop-i : goal.invariant-loop-i
invariant-loop-i l = record {
  size : length l.target ≡ length l.lists;
  kept : take l.place l.target ≡ take l.place l.initial.target;
  count : AreMembers l.members (flat_map (block (take l.place l.initial.target) (drop (l.place + 1) l.lists)) (take l.i (get_or l.lists l.place []))) l.count;
  bounded : l.count ≤ length l.members;
}
