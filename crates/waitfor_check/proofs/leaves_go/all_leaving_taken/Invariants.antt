use Rattle.std.proofs.Common.{ℕ, ◌≡◌, ◌<◌, false, get_or}
use Rattle.pair_structure.specs.Structure.{label_at}
use Rattle.pair_structure.specs.Sides.{local_of}
use Rattle.waitfor_check.specs.Star.{MayTake}
use Rattle.waitfor_check.proofs.leaves_go.all_leaving_taken.Given as goal

abbrev pub invariant-loop-arc : goal.invariant-loop-arc
invariant-loop-arc l = (k : ℕ) → k < l.arc-index → (get_or l.arcs k (record { from = 0; to = 0; free = false })).from ≡ local_of l.side (label_at l.structure.states l.state) → MayTake l.structure l.side (get_or l.arcs k (record { from = 0; to = 0; free = false })) l.state
