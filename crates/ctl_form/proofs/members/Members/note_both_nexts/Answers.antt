use Rattle.std.proofs.Common.{Some, None, List, refl}
use Rattle.pair_structure.specs.declared.side.Side.TheVariants.{A, B}
use Rattle.ctl_form.specs.Form.{Form, next}
use Rattle.ctl_form.specs.Members.{form_at, forms_of}
use Rattle.ctl_form.specs.MemberTable.{IsNumbered}
use Rattle.ctl_form.specs.inside.Walking.{pair_joint, noted_sides, nexts, noted_nexts}
use Rattle.ctl_form.proofs.MemberWalkLaws.{extends_same, extends_joined, result_from_fault, joined_numbers}
use Rattle.ctl_form.proofs.members.Members.note_both_nexts.Goals as goal

pub returns-in_err-a : goal.returns-in_err-a
returns-in_err-a c =
    let forms : List Form = forms_of c.args.self.now in
    let f : Form = form_at forms c.args.f in
    let sides : List Form = noted_sides c.args.all f forms in
    result_from_fault (IsNumbered (noted_nexts c.args.all None f forms) (nexts c.args.all None f) c.note_sides.new.self) sides (noted_nexts c.args.all None f forms) c.in_err-a.field-0.0 c.from_residual.result c.from_residual.ensures.1
    (extends_joined (pair_joint c.args.all) (next c.args.all (Some A) f) (next c.args.all (Some B) f) sides sides (extends_same sides sides refl)) c.in_err-a.ensures

pub returns : goal.returns
returns c =
    let forms : List Form = forms_of c.args.self.now in
    let f : Form = form_at forms c.args.f in
    joined_numbers c.pair_of.result (pair_joint c.args.all) (next c.args.all (Some A) f) (next c.args.all (Some B) f) (noted_sides c.args.all f forms) c.note_sides.new.self c.note_joined.new.self c.in_ok-a.a c.in_ok-a.b c.note_joined.result c.pair_of.ensures
    c.in_ok-a.ensures.a c.in_ok-a.ensures.b c.note_joined.ensures
