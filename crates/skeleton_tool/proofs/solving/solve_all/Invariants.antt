use Rattle.std.proofs.Common.{take}
use Rattle.skeleton_tool.specs.Answer.{AreLeast}
use Rattle.skeleton_tool.proofs.solving.solve_all.Given as goal

abbrev pub invariant-loop-number : goal.invariant-loop-number
invariant-loop-number l = AreLeast l.roles (take l.number l.kinds) l.structures.items
