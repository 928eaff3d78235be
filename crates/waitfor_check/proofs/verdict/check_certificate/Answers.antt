use Rattle.std.proofs.Common.{List, All, sym, subst}
use Rattle.waitfor_check.specs.inside.Fits.{IsFitting}
use Rattle.waitfor_check.specs.declared.star.Star.{Star}
use Rattle.waitfor_check.specs.Verdicts.{HasShapes, IsVerdict}
use Rattle.waitfor_check.proofs.FittingStars.{fitting_from}
use Rattle.waitfor_check.proofs.verdict.check_certificate.Goals as goal

pub check_stars-requires-clause-fits : goal.check_stars-requires-clause-fits
check_stars-requires-clause-fits c = subst (λ (stars : List Star). All (IsFitting c.args.system.now) stars) (sym c.stars.ensures) (fitting_from c.args.system.now c.args.certificate.now c.requires)

pub check_stars-requires-clause-shapes : goal.check_stars-requires-clause-shapes
check_stars-requires-clause-shapes c =
    let peels = c.in_ok-starts_with_peel_order.ensures.0 c.if-not-branch.false in
    let shapes = rw c.in_default.is at c.in_ok-process.ensures in
    subst (λ (stars : List Star). HasShapes c.args.system.now stars) (sym c.stars.ensures) (peels, shapes)

pub returns-clause-goes_on : goal.returns-clause-goes_on
returns-clause-goes_on c = λ is wishes run. c.accepted_goes_on.ensures c.args.system.now c.stars.result.now wishes c.network-network.ensures.system (subst (IsVerdict c.args.system.now c.stars.result.now) is c.in_ok-verdict.ensures) run
