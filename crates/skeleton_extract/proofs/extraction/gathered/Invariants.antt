use Rattle.std.proofs.Common.{take}
use Rattle.skeleton_extract.specs.inside.Gathered.{AreGathered}
use Rattle.skeleton_extract.proofs.extraction.gathered.Given as goal

abbrev pub invariant-loop-step : goal.invariant-loop-step
invariant-loop-step l = AreGathered l.m.states (take l.step-index l.m.moves) l.side l.role.arcs l.lists
