use Rattle.std.proofs.Common.{arith, refl}
use Rattle.waitfor_check.proofs.FittingLists.{falls, sorted_label}
use Rattle.certificate_text.proofs.shape.are_rising.Goals as goal

pub returns-then-rank : goal.returns-then-rank
returns-then-rank c = (λ never. cc, λ sorted. absurd (falls c.args.labels.now c.loop-i.i c.loop-i.auto.i c.loop-i-test.true (omega (arith, c.if-rank.true, c.rank.ensures, c.rank-in-loop-i.ensures)) sorted))

pub loop-i-preserved : goal.loop-i-preserved
loop-i-preserved c = sorted_label c.args.labels.now c.loop-i.i c.loop-i.auto.i c.loop-i-test.true c.loop-i.invariant (omega (arith, c.if-rank.false, c.rank.ensures, c.rank-in-loop-i.ensures))

pub returns : goal.returns
returns c = (λ ok i j d le lt. c.loop-i.invariant i j d le (omega (arith, lt, c.loop-i-test.false)), λ sorted. refl)
