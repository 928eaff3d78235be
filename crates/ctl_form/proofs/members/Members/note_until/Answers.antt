use Rattle.std.proofs.Common.{List, refl}
use Rattle.ctl_form.specs.Form.{Form, until}
use Rattle.ctl_form.specs.Members.{form_at, forms_of}
use Rattle.ctl_form.specs.MemberTable.{IsNumbered}
use Rattle.ctl_form.specs.Walk.{noted}
use Rattle.ctl_form.specs.inside.Walking.{noted_sides}
use Rattle.ctl_form.proofs.MemberWalkLaws.{extends_same, extends_sides, result_from_fault, sides_as, numbered_with_sides}
use Rattle.ctl_form.proofs.members.Members.note_until.Goals as goal

pub returns-in_err-u : goal.returns-in_err-u
returns-in_err-u c =
    let forms : List Form = forms_of c.args.self.now in
    let u : Form = until c.args.all c.args.weak (form_at forms c.args.f) (form_at forms c.args.g) in
    result_from_fault (IsNumbered (noted_sides c.args.all u (noted u forms)) u c.note.new.self) (noted u forms) (noted_sides c.args.all u (noted u forms)) c.in_err-u.field-0.0 c.from_residual.result c.from_residual.ensures.1
    (extends_sides c.args.all u (noted u forms) (noted u forms) (extends_same (noted u forms) (noted u forms) refl)) c.in_err-u.ensures

pub returns-in_err-note_sides : goal.returns-in_err-note_sides
returns-in_err-note_sides c =
    let forms : List Form = forms_of c.args.self.now in
    let u : Form = until c.args.all c.args.weak (form_at forms c.args.f) (form_at forms c.args.g) in
    let p = c.note.new.self in
    let sides : List Form = noted_sides c.args.all (form_at (forms_of p) c.in_ok-u.u) (forms_of p) in
    result_from_fault (IsNumbered (noted_sides c.args.all u (noted u forms)) u c.note_sides.new.self) sides (noted_sides c.args.all u (noted u forms)) c.in_err-note_sides.field-0.0 c.from_residual-in_err-note_sides.result c.from_residual-in_err-note_sides.ensures.1
    (extends_same sides (noted_sides c.args.all u (noted u forms)) (sides_as (noted u forms) u c.args.all p c.in_ok-u.u c.in_ok-u.ensures)) c.in_err-note_sides.ensures

pub returns : goal.returns
returns c =
    let forms : List Form = forms_of c.args.self.now in
    let u : Form = until c.args.all c.args.weak (form_at forms c.args.f) (form_at forms c.args.g) in
    numbered_with_sides (noted u forms) u c.args.all c.note.new.self c.note_sides.new.self c.in_ok-u.u c.in_ok-note_sides.field-0 c.in_ok-u.ensures c.in_ok-note_sides.ensures
