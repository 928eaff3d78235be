use Rattle.std.proofs.Common.{◌≡◌, ◌++◌, take}
use Rattle.std.specs.List.{flat_map}
use Rattle.ctl_text.specs.SpecText.{kind_text}
use Rattle.ctl_text.proofs.spec_writer.write_kinds.Given as goal

abbrev pub invariant-loop-kind : goal.invariant-loop-kind
invariant-loop-kind l = l.into.items ≡ l.initial.into.items ++ flat_map (kind_text l.roles) (take l.kind-index l.kinds)
