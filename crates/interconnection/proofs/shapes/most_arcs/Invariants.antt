use Rattle.std.proofs.Common.{◌≡◌, ◌≤◌, length, map}
use Rattle.std.specs.List.{range_with_len}
use Rattle.interconnection.specs.Shape.{arcs_from, greatest}
use Rattle.interconnection.proofs.shapes.most_arcs.Given as goal

abbrev pub invariant-loop-p : goal.invariant-loop-p
invariant-loop-p l = record { most : l.most ≡ greatest (map (arcs_from l.role.arcs) (range_with_len 0 l.p)); few : l.most ≤ length l.role.arcs }
