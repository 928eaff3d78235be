use Rattle.std.proofs.Common.{◌≡◌, List, ap, ◌∙◌}
use Rattle.ctl_form.specs.Closure.{opening}
use Rattle.ctl_form.specs.Members.{forms_of}
use Rattle.ctl_form.specs.declared.part.Part.{Part}
use Rattle.ctl_form.specs.inside.Walking.{noted_opening}
use Rattle.ctl_form.proofs.ClosureLaws.{opening_noted}
use Rattle.ctl_form.proofs.MemberWalkLaws.{extends_same, result_from_fault}
use Rattle.ctl_form.proofs.normal.opened.Goals as goal

pub returns-in_err-note_opening : goal.returns-in_err-note_opening
returns-in_err-note_opening c =
    let e = ap (λ (l : List Part). noted_opening (forms_of l)) c.new-members.ensures ∙ opening_noted in
    result_from_fault (λ (l : List Part). forms_of l ≡ opening) (noted_opening (forms_of c.new-members.result)) opening c.in_err-note_opening.field-0.0 c.from_residual.result c.from_residual.ensures.1
    (extends_same (noted_opening (forms_of c.new-members.result)) opening e) c.in_err-note_opening.ensures

pub returns : goal.returns
returns c = c.in_ok-note_opening.ensures.forms ∙ ap (λ (l : List Part). noted_opening (forms_of l)) c.new-members.ensures ∙ opening_noted
