use Rattle.std.proofs.Common.{false, List, refl}
use Rattle.ctl_form.specs.Form.{Form, truth, falsity}
use Rattle.ctl_form.specs.Members.{form_at, forms_of}
use Rattle.ctl_form.specs.MemberTable.{IsNumbered}
use Rattle.ctl_form.specs.Walk.{noted}
use Rattle.ctl_form.specs.inside.Walking.{noted_sides}
use Rattle.ctl_form.proofs.MemberWalkLaws.{extends_same, extends_sides, result_from_fault, sides_as, numbered_with_sides}
use Rattle.ctl_form.proofs.members.Members.note_opening.Goals as goal

pub returns-in_err-truth : goal.returns-in_err-truth
returns-in_err-truth c =
    let first : List Form = noted falsity (noted truth (forms_of c.args.self.now)) in
    result_from_fault (IsNumbered (noted_sides false truth first) truth c.note_constants.new.self) first (noted_sides false truth first) c.in_err-truth.field-0.0 c.from_residual.result c.from_residual.ensures.1
    (extends_sides false truth first first (extends_same first first refl)) c.in_err-truth.ensures

pub returns-in_err-note_sides : goal.returns-in_err-note_sides
returns-in_err-note_sides c =
    let first : List Form = noted falsity (noted truth (forms_of c.args.self.now)) in
    let p = c.note_constants.new.self in
    let sides : List Form = noted_sides false (form_at (forms_of p) c.in_ok-truth.truth) (forms_of p) in
    result_from_fault (IsNumbered (noted_sides false truth first) truth c.note_sides.new.self) sides (noted_sides false truth first) c.in_err-note_sides.field-0.0 c.from_residual-in_err-note_sides.result c.from_residual-in_err-note_sides.ensures.1
    (extends_same sides (noted_sides false truth first) (sides_as first truth false p c.in_ok-truth.truth c.in_ok-truth.ensures)) c.in_err-note_sides.ensures

pub returns : goal.returns
returns c =
    let first : List Form = noted falsity (noted truth (forms_of c.args.self.now)) in
    numbered_with_sides first truth false c.note_constants.new.self c.note_sides.new.self c.in_ok-truth.truth c.in_ok-note_sides.field-0 c.in_ok-truth.ensures c.in_ok-note_sides.ensures
