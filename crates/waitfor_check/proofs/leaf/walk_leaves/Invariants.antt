use Rattle.std.proofs.Common.{◌≡◌, ◌≤◌, ◌*◌, length, map, set, get_or}
use Rattle.std.specs.List.{flat_map, range_with_len}
use Rattle.waitfor_check.specs.Star.{leaf_side, leaf_structure}
use Rattle.waitfor_check.specs.Steps.{reached}
use Rattle.waitfor_check.specs.inside.Walk.{AreMembers}
use Rattle.waitfor_check.proofs.leaf.walk_leaves.Given as goal

abbrev pub invariant-loop-i : goal.invariant-loop-i
invariant-loop-i l = record {
  target : l.target ≡ l.states;
  members : AreMembers l.star.members (flat_map (λ i. map (set l.states i) (reached (leaf_structure l.system l.star.shape i) (leaf_side l.star.shape i) (get_or l.states i 0))) (range_with_len 0 l.i)) l.count;
  few : l.count ≤ l.i * length l.star.members;
}
