use Rattle.std.proofs.Common.{◌≡◌, All, map, take}
use Rattle.certificate_text.specs.Cause.{HasKindNamed}
use Rattle.certificate_text.specs.State.{label_numbered}
use Rattle.certificate_text.specs.inside.Saying.{names_of}
use Rattle.certificate_text.proofs.shape.shape_of.Given as goal

abbrev pub invariant-loop-label : goal.invariant-loop-label
invariant-loop-label l = record {
  leaves : l.leaves.items ≡ map (label_numbered l.spec) (names_of (take l.label-index l.labels));
  known : All (HasKindNamed l.spec) (names_of (take l.label-index l.labels));
}
