use Rattle.std.proofs.Common.{◌≡◌, ◌<◌, true, false, refl, subst, sym, ◌∙◌, ap, map, length, arith, All}
use Rattle.std.proofs.lemmas.List.{get_or-map, length-map, take_all}
use Rattle.ctl_form.specs.Form.{form_of}
use Rattle.ctl_form.specs.Truth.{Holds}
use Rattle.ctl_form.proofs.solving.all_hold.Goals as goal

pub returns-then-not-branch : goal.returns-then-not-branch
returns-then-not-branch c =
    let place = c.loop-form.form-index in
    let here = get_or-map form_of c.args.forms.now place c.form-item.result (form_of c.form-item.result) c.loop-form-test.true ∙ ap form_of (sym c.form-item.is) in
    let within : c.loop-form.form-index < length (map form_of c.args.forms.now) = omega (arith, length-map c.args.forms.now form_of, c.loop-form-test.true) in (
      λ h. let no_truth : false ≡ true = h in cc,
      λ all. sym c.if-not-branch.true ∙ c.in_ok-holds_below.ensures.holds.1 (λ s lt. subst (λ f. Holds c.args.m.now f s) here (all s lt place (form_of c.form-item.result) within)),
    )

pub returns : goal.returns
returns c = (λ _ s lt. subst (λ forms. All (λ f. Holds c.args.m.now f s) (map form_of forms)) (take_all c.loop-form.form-index c.args.forms.now c.loop-form-test.false) (c.loop-form.invariant.holds s lt), λ _. refl)
