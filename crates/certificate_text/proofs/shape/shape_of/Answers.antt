use Rattle.std.proofs.Common.{ap, ◌∙◌}
use Rattle.text_cause.specs.declared.cause.TextCause.TheVariants.{UnknownName}
use Rattle.text_cause.proofs.Lowest.{row_lowest}
use Rattle.interconnection.specs.Network.{NetworkParts}
use Rattle.certificate_text.proofs.ShapeBars.{known_all, known_more, label_known, leaves_more}
use Rattle.certificate_text.proofs.shape.shape_of.Goals as goal

pub returns-in_default-kind_number-clause-refused : goal.returns-in_default-kind_number-clause-refused
returns-in_default-kind_number-clause-refused c =
    row_lowest UnknownName _ (λ known. c.in_default-kind_number.ensures.none (rw c.kinds.ensures.kinds (label_known c.args.spec.now c.args.labels.now c.loop-label.label-index _ c.loop-label-test.true known.1)))

pub loop-label-preserved : goal.loop-label-preserved
loop-label-preserved c = record {
  leaves = leaves_more c.args.spec.now c.args.labels.now c.loop-label.label-index _ c.loop-label.leaves.items c.push_leaf.new.leaves.items c.in-Some-kind_number.kind c.loop-label-test.true c.loop-label.invariant.leaves c.in_ok-push_leaf.ensures (rw c.kinds.ensures.kinds at c.in-Some-kind_number.ensures.number);
  known = known_more c.args.spec.now c.args.labels.now c.loop-label.label-index _ c.loop-label-test.true c.loop-label.invariant.known (rw c.kinds.ensures.kinds at c.in-Some-kind_number.ensures.some);
}

pub returns-clause-known : goal.returns-clause-known
returns-clause-known c =
    let roles = c.roles.ensures.roles ∙ ap (λ (n : NetworkParts). n.roles) c.network.ensures.network in
    (rw roles at c.in-Some.ensures.some, known_all c.args.spec.now c.args.labels.now c.loop-label.label-index c.loop-label-test.false c.loop-label.invariant.known)
