use Rattle.std.proofs.Common.{List, ℕ, ◌↔◌, IsTrue, refl, subst, sym}
use Rattle.waitfor_check.specs.Fitting.{Fits, Rise, StarFits}
use Rattle.waitfor_check.specs.declared.star.Star.{Star}
use Rattle.std.specs.Prelude.{All}
use Rattle.waitfor_check.proofs.KeysDiffer.{differ_from_rise, rise_from_differ}
use Rattle.waitfor_check.proofs.certificate.Certificate.fits.Goals as goal

pub returns : goal.returns
returns c =
    let stars = c.self.inside.stars.items in
    let keys = c.self.inside.keys.items in
    let rises = subst (λ (keys : List (List ℕ)). IsTrue c.all_rise.result ↔ Rise keys) c.deref-2.ensures.value c.all_rise.ensures in
    let each = subst (λ (stars : List Star). All (StarFits c.args.system.now) stars) c.deref.ensures.value (c.if-not-stars_fit.ensures.0 refl) in
    subst (λ (stars : List Star). IsTrue c.all_rise.result ↔ Fits c.args.system.now stars) c.self.view_is (
      λ yes. record { each = each; differ = differ_from_rise stars keys c.self.invariant (rises.0 yes) },
      λ fits. rises.1 (rise_from_differ stars keys c.self.invariant fits.differ),
    )
