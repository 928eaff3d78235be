use Rattle.std.proofs.Common.{◌≤◌, ◌-◌, length}
use Rattle.conjunctive_compose.specs.inside.Peeling.{IsPeeling, NoneCanGo}
use Rattle.conjunctive_compose.specs.System.{process_count}
use Rattle.conjunctive_compose.proofs.system.System.place_rest.Given as goal

abbrev pub invariant-loop-next : goal.invariant-loop-next
invariant-loop-next l = record {
  within : l.next ≤ length l.peeling.order;
  peeling : IsPeeling l.self l.w l.peeling;
  none : NoneCanGo l.self l.w l.peeling l.next;
}

abbrev pub decreases-loop-next : goal.decreases-loop-next
decreases-loop-next l = process_count l.self - l.next
