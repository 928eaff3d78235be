use Rattle.std.proofs.Common.{ℕ, ◌<◌}
use Rattle.conjunctive_compose.specs.Peel.{IsClear, IsLeaving}
use Rattle.conjunctive_compose.specs.inside.Peeling.{IsMarked, IsPeeling, PlaceSame}
use Rattle.conjunctive_compose.proofs.system.System.can_go.Given as goal

abbrev pub invariant-loop-arc : goal.invariant-loop-arc
invariant-loop-arc l = record {
  peeling : IsPeeling l.self l.w l.peeling;
  same : PlaceSame l.initial.peeling l.peeling;
  none : (before : ℕ) → before < l.arc → IsLeaving l.self l.w l.process before × IsClear l.self l.w (IsMarked l.initial.peeling.marks) l.process before → ⊥;
}
