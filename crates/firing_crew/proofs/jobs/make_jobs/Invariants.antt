use Rattle.std.proofs.Common.{◌≡◌, ◌+◌, length}
use Rattle.firing_hall.specs.Opening.{IsFresh}
use Rattle.firing_crew.specs.inside.Jobs.{IsBegunJob}
use Rattle.firing_crew.proofs.ByPlace.{From}
use Rattle.firing_crew.proofs.jobs.make_jobs.Given as goal

abbrev pub invariant-loop-caller : goal.invariant-loop-caller
invariant-loop-caller g l =
    From (IsFresh l.hall) l.caller l.passes.items
    × (length l.passes.items + l.caller ≡ l.orders.callers)
    × (length l.gates.items + l.caller ≡ l.orders.callers)
    × (length l.jobs.items ≡ l.caller)
    × From (IsBegunJob l.hall l.orders) 0 l.jobs.items
