use Rattle.std.proofs.Common.{◌<◌, ℕ}
use Rattle.pair_structure.specs.inside.StructureCheck.{FollowsArc}
use Rattle.pair_structure.proofs.move_check.first_off_arcs.Given as goal

abbrev pub invariant-loop-n : goal.invariant-loop-n
invariant-loop-n l = (k : ℕ) → k < l.n → FollowsArc l.fn.a l.fn.b l.states l.moves k
