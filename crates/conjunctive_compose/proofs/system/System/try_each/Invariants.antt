use Rattle.conjunctive_compose.specs.inside.Peeling.{IsGrown, IsPeeling, WereTried}
use Rattle.conjunctive_compose.proofs.system.System.try_each.Given as goal

abbrev pub invariant-loop-b : goal.invariant-loop-b
invariant-loop-b l = record {
  peeling : IsPeeling l.self l.w l.peeling;
  grown : IsGrown l.initial.peeling l.peeling;
  tried : WereTried l.self l.w l.initial.peeling l.peeling l.neighbours l.b-index;
}
