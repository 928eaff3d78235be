use Rattle.std.proofs.Common.{◌≡◌, ◌≤◌, length, map}
use Rattle.std.specs.Prelude.{vec_capacity}
use Rattle.firing_hall.specs.inside.Taking.{total}
use Rattle.firing_hall.proofs.blank.no_lists.Given as goal

abbrev pub invariant-loop : goal.invariant-loop
invariant-loop l = (length l.lists.items ≡ l.counter) × (l.count ≤ vec_capacity l.lists) × (total (map (λ v. v.items) l.lists.items) ≡ 0)
