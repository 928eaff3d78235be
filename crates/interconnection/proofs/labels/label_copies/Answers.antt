use Rattle.std.proofs.Common.{[], arith}
use Rattle.std.proofs.lemmas.List.{ext_get_or}
use Rattle.interconnection.proofs.labels.label_copies.Goals as goal

pub returns : goal.returns
returns c = ext_get_or [] c.loop-k.copies c.args.labels.now (omega (arith, c.loop-k.invariant.size, c.requires)) (λ i lt. c.loop-k.invariant.same i (omega (arith, lt, c.loop-k.invariant.size)))
