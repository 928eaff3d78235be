use Rattle.std.proofs.Common.{List, map}
use Rattle.ctl_form.specs.Form.{Form, form_of}
use Rattle.ctl_form.specs.Members.{forms_of}
use Rattle.ctl_form.specs.NormalParts.{NormalParts}
use Rattle.ctl_form.specs.Numbered.{IsNormalOf, IsRefusalOf}
use Rattle.ctl_form.proofs.NormalLaws.{normal_of, refusal_of, opening_refusal}
use Rattle.ctl_form.proofs.MemberWalkLaws.{result_from_err}
use Rattle.ctl_form.proofs.normal.Normal.of.Goals as goal

pub returns-in_err-members : goal.returns-in_err-members
returns-in_err-members c =
    let conjuncts : List Form = map form_of c.args.conjuncts.now in
    result_from_err (IsNormalOf conjuncts) (IsRefusalOf conjuncts) c.in_err-members.field-0.0 c.from_residual.result c.from_residual.ensures.1 (opening_refusal conjuncts c.in_err-members.field-0.0 c.in_err-members.ensures)

pub returns-in_err-roots : goal.returns-in_err-roots
returns-in_err-roots c =
    let conjuncts : List Form = map form_of c.args.conjuncts.now in
    result_from_err (IsNormalOf conjuncts) (IsRefusalOf conjuncts) c.in_err-roots.field-0.0 c.from_residual-in_err-roots.result c.from_residual-in_err-roots.ensures.1
    (refusal_of conjuncts (forms_of c.in_ok-members.members) c.in_err-roots.field-0.0 c.in_ok-members.ensures c.in_err-roots.ensures)

pub returns : goal.returns
returns c =
    let conjuncts : List Form = map form_of c.args.conjuncts.now in
    let n : NormalParts = record { parts = c.roots_of.new.members; roots = c.in_ok-roots.roots.items } in
    normal_of conjuncts n c.in_ok-members.members c.parts-numbered.ensures.numbering c.in_ok-members.ensures c.in_ok-roots.ensures

pub invariant_of-result : goal.invariant_of-result
invariant_of-result c =
    let conjuncts : List Form = map form_of c.args.conjuncts.now in
    let n : NormalParts = record { parts = c.roots_of.new.members; roots = c.in_ok-roots.roots.items } in
    let kept : IsNormalOf conjuncts n = normal_of conjuncts n c.in_ok-members.members c.parts-numbered.ensures.numbering c.in_ok-members.ensures c.in_ok-roots.ensures in
    record { opens = kept.closure.closed.opens; grown = kept.closure.closed.grown; rooted = c.in_ok-roots.ensures.members }
