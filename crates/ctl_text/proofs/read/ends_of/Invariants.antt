use Rattle.std.proofs.Common.{◌≡◌, take}
use Rattle.ctl_text.specs.Value.{kind_ends}
use Rattle.ctl_text.proofs.read.ends_of.Given as goal

abbrev pub invariant-loop-kind : goal.invariant-loop-kind
invariant-loop-kind l = l.ends.items ≡ kind_ends (take l.kind-index l.kinds)
