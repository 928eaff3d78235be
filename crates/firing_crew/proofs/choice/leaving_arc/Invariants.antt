use Rattle.std.proofs.Common.{◌≡◌, ◌≤◌, take}
use Rattle.firing_crew.specs.Choice.{leaving_count}
use Rattle.firing_crew.proofs.choice.leaving_arc.Given as goal

abbrev pub invariant-loop-i : goal.invariant-loop-i
invariant-loop-i l = (l.before ≡ leaving_count (take l.i l.arcs) l.local) × (l.before ≤ l.n)
