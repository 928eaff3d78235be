use Rattle.std.proofs.Common.{◌++◌, ap, sym, ◌∙◌}
use Rattle.certificate_text.proofs.Suffixes.{ends_with}
use Rattle.certificate_text.proofs.item.sided.Goals as goal

pub returns-in-Some : goal.returns-in-Some
returns-in-Some c =
    ends_with c.args.word.now c.as_slice.result.now c.in-Some.ensures.cases.0 ∙ ap (λ t. t ++ c.as_slice.result.now) (sym c.in-Some.ensures.cases.1) ∙ ap (λ t. c.in-Some.kind.now ++ t) c.as_slice.ensures

pub returns-in-Some-strip_suffix : goal.returns-in-Some-strip_suffix
returns-in-Some-strip_suffix c =
    ends_with c.args.word.now c.as_slice-2.result.now c.in-Some-strip_suffix.ensures.cases.0 ∙ ap (λ t. t ++ c.as_slice-2.result.now) (sym c.in-Some-strip_suffix.ensures.cases.1)
    ∙ ap (λ t. c.in-Some-strip_suffix.kind.now ++ t) c.as_slice-2.ensures
