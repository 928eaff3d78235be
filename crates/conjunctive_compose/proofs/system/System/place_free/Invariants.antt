use Rattle.std.proofs.Common.{ℕ, ◌<◌, [], Contains}
use Rattle.conjunctive_compose.specs.Peel.{CanGoPast}
use Rattle.conjunctive_compose.specs.inside.Peeling.{IsMarked, IsPeeling}
use Rattle.conjunctive_compose.proofs.system.System.place_free.Given as goal

abbrev pub invariant-loop-k : goal.invariant-loop-k
invariant-loop-k l = record {
  peeling : IsPeeling l.self l.w l.peeling;
  tried : (j : ℕ) → j < l.k → (IsMarked l.peeling.marks j → ⊥) → CanGoPast l.self l.w (Contains []) j → ⊥;
}
