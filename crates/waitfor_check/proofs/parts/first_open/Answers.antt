use Rattle.std.proofs.Common.{◌≡◌, None, Some, arith, below_more, ◌∙◌, subst}
use Rattle.std.proofs.lemmas.List.{get_or_default}
use Rattle.waitfor_check.specs.Closed.{IsFirstUnclosed}
use Rattle.waitfor_check.specs.Parts.{no_star, star_at}
use Rattle.waitfor_check.specs.declared.star.Star.{Star}
use Rattle.waitfor_check.proofs.parts.first_open.Goals as goal

pub returns-in-Some : goal.returns-in-Some
returns-in-Some c =
    let at : c.index-stars-i.result ≡ star_at c.args.stars.now c.loop-i.i = c.index-stars-i.is ∙ get_or_default c.args.stars.now c.loop-i.i c.index-stars-i.result no_star c.loop-i-test.true in
    (c.loop-i-test.true, subst (λ (star : Star). IsFirstUnclosed c.args.system.now star (Some c.in-Some.place)) at (rw c.in-Some.is at c.in_ok-place.ensures), c.loop-i.invariant)

pub loop-i-preserved : goal.loop-i-preserved
loop-i-preserved c =
    let at : c.index-stars-i.result ≡ star_at c.args.stars.now c.loop-i.i = c.index-stars-i.is ∙ get_or_default c.args.stars.now c.loop-i.i c.index-stars-i.result no_star c.loop-i-test.true in
    below_more _ _ c.loop-i.invariant (subst (λ (star : Star). IsFirstUnclosed c.args.system.now star None) at (rw c.in-None.is at c.in_ok-place.ensures))

pub returns : goal.returns
returns c = λ star lt. c.loop-i.invariant star (omega (arith, lt, c.loop-i-test.false))
