use Rattle.std.proofs.Common.{◌≡◌}
use Rattle.firing_hall.specs.Passes.{IsPassOf}
use Rattle.firing_crew.proofs.work.fire_on.Given as goal

abbrev pub invariant-loop : goal.invariant-loop
invariant-loop g l =
    (goal.iterator-loop g).can_next l.iterator'
    × (goal.iterator-loop g).is_finite l.iterator'
    × IsPassOf l.hall l.pass
    × (l.pass.caller ≡ l.initial.pass.caller)
    × (l.pass.asked.items ≡ l.initial.pass.asked.items)
