-- The number of each status.
use Rattle.std.specs.Prelude.{ℕ}
use Rattle.skeleton_tool.specs.declared.status.Status.{Status}
use Rattle.skeleton_tool.specs.declared.status.Status.TheVariants.{Done, Usage, Refused, Unsatisfiable, Fails, ReadFault, WriteFault, OutOfLimits, OutOfMemory}

abbrev pub code_of : Status → ℕ
code_of Done = 0
code_of Usage = 1
code_of Refused = 2
code_of Unsatisfiable = 3
code_of Fails = 4
code_of ReadFault = 5
code_of WriteFault = 6
code_of OutOfLimits = 7
code_of OutOfMemory = 8
