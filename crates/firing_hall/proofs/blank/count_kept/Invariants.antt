use Rattle.std.proofs.Common.{◌≡◌, ◌≤◌, ◌+◌, ◌-◌, ◌^◌, ◌⊎◌, drop}
use Rattle.firing_hall.specs.inside.Taking.{kept_in}
use Rattle.firing_hall.proofs.blank.count_kept.Given as goal

abbrev pub invariant-loop-i : goal.invariant-loop-i
invariant-loop-i l = (kept_in l.passes ≤ l.count + kept_in (drop l.i l.passes)) ⊎ (l.count ≡ 2 ^ 64 - 1)
