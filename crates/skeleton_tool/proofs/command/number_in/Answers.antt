use Rattle.std.proofs.Common.{sym, refl}
use Rattle.skeleton_tool.specs.Number.{number_of}
use Rattle.skeleton_tool.proofs.Numbers.{none_number}
use Rattle.skeleton_tool.proofs.command.number_in.Goals as goal

pub returns-in-None : goal.returns-in-None
returns-in-None c = rw c.as_bytes.ensures.value at (sym (none_number c.as_bytes.result.now (number_of c.as_bytes.result.now) c.in-None.ensures.none refl))
