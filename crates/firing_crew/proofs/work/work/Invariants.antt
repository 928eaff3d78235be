use Rattle.std.proofs.Common.{◌≡◌, length}
use Rattle.firing_crew.specs.inside.Working.{Works}
use Rattle.firing_crew.proofs.work.work.Given as goal

abbrev pub invariant-loop-count : goal.invariant-loop-count
invariant-loop-count g l = Works l.hall l.orders l.pass l.worker × (l.pass.caller ≡ l.initial.pass.caller) × (length l.pass.asked.items ≡ l.count)
