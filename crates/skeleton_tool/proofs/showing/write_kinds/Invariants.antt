use Rattle.std.proofs.Common.{take}
use Rattle.skeleton_tool.specs.inside.Showing.{ShowsKinds}
use Rattle.skeleton_tool.proofs.showing.write_kinds.Given as goal

abbrev pub invariant-loop-number : goal.invariant-loop-number
invariant-loop-number l = ShowsKinds l.roles (take l.number l.kinds) (take l.number l.structures) l.initial.into.items l.into.items
