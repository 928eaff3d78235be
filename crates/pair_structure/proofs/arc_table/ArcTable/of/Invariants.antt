use Rattle.std.proofs.Common.{take}
use Rattle.pair_structure.specs.inside.ArcTable.{IsTableOf}
use Rattle.pair_structure.proofs.arc_table.ArcTable.of.Given as goal

abbrev pub invariant-loop-arc : goal.invariant-loop-arc
invariant-loop-arc l = IsTableOf l.rows (take l.arc-index l.arcs)
