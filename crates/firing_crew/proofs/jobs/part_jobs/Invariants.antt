use Rattle.std.proofs.Common.{◌≡◌, ◌+◌, length}
use Rattle.firing_crew.specs.inside.Jobs.{IsDone, IsDoneJob}
use Rattle.firing_crew.proofs.ByPlace.{From}
use Rattle.firing_crew.proofs.jobs.part_jobs.Given as goal

abbrev pub invariant-loop-caller : goal.invariant-loop-caller
invariant-loop-caller g l =
    From (IsDoneJob l.hall l.orders) l.caller l.jobs.items
    × (length l.jobs.items + l.caller ≡ l.orders.callers)
    × (length l.gates.items ≡ l.caller)
    × (length l.passes.items ≡ l.caller)
    × From (IsDone l.hall l.orders) 0 l.passes.items
