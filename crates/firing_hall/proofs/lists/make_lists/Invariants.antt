use Rattle.std.proofs.Common.{◌≡◌, ◌≤◌, length}
use Rattle.std.specs.Prelude.{All, vec_capacity}
use Rattle.firing_hall.specs.inside.Dealing.{HasRoom}
use Rattle.firing_hall.proofs.lists.make_lists.Given as goal

abbrev pub invariant-loop : goal.invariant-loop
invariant-loop l = All (HasRoom l.room) l.lists.items × (length l.lists.items ≡ l.counter) × (l.callers ≤ vec_capacity l.lists)
