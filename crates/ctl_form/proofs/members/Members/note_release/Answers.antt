use Rattle.std.proofs.Common.{List, refl}
use Rattle.ctl_form.specs.Form.{Form, both}
use Rattle.ctl_form.specs.Members.{form_at, forms_of}
use Rattle.ctl_form.specs.MemberTable.{IsNumbered}
use Rattle.ctl_form.specs.Walk.{noted}
use Rattle.ctl_form.specs.inside.Walking.{joined, noted_joined}
use Rattle.ctl_form.specs.declared.joint.Joint.{Joint}
use Rattle.ctl_form.specs.declared.joint.Joint.TheVariants.{Until}
use Rattle.ctl_form.proofs.MemberWalkLaws.{extends_same, extends_joined, result_from_fault, numbered_kept, joined_numbers}
use Rattle.ctl_form.proofs.members.Members.note_release.Goals as goal

pub returns-in_err-both : goal.returns-in_err-both
returns-in_err-both c =
    let forms : List Form = forms_of c.args.self.now in
    let f : Form = form_at forms c.args.f in
    let k : Form = both (form_at forms c.args.g) f in
    let joint : Joint = Until c.args.all c.args.weak in
    result_from_fault (IsNumbered (noted_joined joint f k (noted k forms)) (joined joint f k) c.note.new.self) (noted k forms) (noted_joined joint f k (noted k forms)) c.in_err-both.field-0.0 c.from_residual.result c.from_residual.ensures.1
    (extends_joined joint f k (noted k forms) (noted k forms) (extends_same (noted k forms) (noted k forms) refl)) c.in_err-both.ensures

pub note_until-requires-clause-f : goal.note_until-requires-clause-f
note_until-requires-clause-f c =
    let forms : List Form = forms_of c.args.self.now in
    (numbered_kept c.args.self.now c.note.new.self (both (form_at forms c.args.g) (form_at forms c.args.f)) c.args.f c.requires.f c.in_ok-both.ensures.forms).below

pub returns : goal.returns
returns c =
    let forms : List Form = forms_of c.args.self.now in
    let f : Form = form_at forms c.args.f in
    let k : Form = both (form_at forms c.args.g) f in
    let joint : Joint = Until c.args.all c.args.weak in
    joined_numbers joint joint f k (noted k forms) c.note.new.self c.note_until.new.self c.args.f c.in_ok-both.both c.note_until.result refl
    (numbered_kept c.args.self.now c.note.new.self k c.args.f c.requires.f c.in_ok-both.ensures.forms) c.in_ok-both.ensures c.note_until.ensures
