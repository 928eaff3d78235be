use Rattle.std.proofs.Common.{◌↔◌, IsTrue, subst}
use Rattle.std.specs.List.Sorted.{IsNonDecreasingBy}
use Rattle.interconnection.specs.Shape.{ShapeParts, rank}
use Rattle.certificate_text.specs.Cause.{LabelsRise}
use Rattle.certificate_text.proofs.shape.labels_rise.Goals as goal

pub returns : goal.returns
returns c =
    let rising : IsTrue c.are_rising.result ↔ IsNonDecreasingBy rank c.shape.inside.leaves.items = rw c.deref.ensures.value at c.are_rising.ensures in
    subst (λ (s : ShapeParts). IsTrue c.are_rising.result ↔ LabelsRise s) c.shape.view_is rising
