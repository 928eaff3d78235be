use Rattle.std.proofs.Common.{◌≡◌, ◌++◌, take, map}
use Rattle.std.specs.List.{flat_map}
use Rattle.ctl_text.specs.SpecText.{ended, local_text}
use Rattle.ctl_text.proofs.spec_writer.write_locals.Given as goal

abbrev pub invariant-loop-name : goal.invariant-loop-name
invariant-loop-name l = l.into.items ≡ l.initial.into.items ++ flat_map ended (map local_text (take l.name-index l.names))
