use Rattle.std.proofs.Common.{◌≡◌, below_more, refl, sym, ◌∙◌, subst}
use Rattle.std.proofs.lemmas.List.{get_or_default}
use Rattle.waitfor_check.specs.Accepted.{HasStarts}
use Rattle.waitfor_check.specs.Parts.{no_star, star_at}
use Rattle.waitfor_check.proofs.parts.first_without_begin.Goals as goal

pub loop-i-preserved : goal.loop-i-preserved
loop-i-preserved c =
    let at : c.index-stars-i.result ≡ star_at c.args.stars.now c.loop-i.i = c.index-stars-i.is ∙ get_or_default c.args.stars.now c.loop-i.i c.index-stars-i.result no_star c.loop-i-test.true in
    below_more _ _ c.loop-i.invariant (subst (HasStarts c.args.system.now) at (c.in_ok-has_starts.ensures.0 c.if-not-branch.false))

pub returns-then-not-branch : goal.returns-then-not-branch
returns-then-not-branch c =
    let at : c.index-stars-i.result ≡ star_at c.args.stars.now c.loop-i.i = c.index-stars-i.is ∙ get_or_default c.args.stars.now c.loop-i.i c.index-stars-i.result no_star c.loop-i-test.true in
    (c.loop-i-test.true, λ has. (let told = c.in_ok-has_starts.ensures.1 (subst (HasStarts c.args.system.now) (sym at) has) in let not = c.if-not-branch.true in cc), c.loop-i.invariant)
