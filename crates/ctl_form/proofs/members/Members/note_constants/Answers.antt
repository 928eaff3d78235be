use Rattle.std.proofs.Common.{List, ap, refl}
use Rattle.ctl_form.specs.Form.{Form, truth, falsity}
use Rattle.ctl_form.specs.Members.{forms_of}
use Rattle.ctl_form.specs.MemberTable.{IsNumbered}
use Rattle.ctl_form.specs.Walk.{noted}
use Rattle.ctl_form.proofs.MemberWalkLaws.{extends_same, extends_noted, result_from_fault, numbered_noted}
use Rattle.ctl_form.proofs.members.Members.note_constants.Goals as goal

pub returns-in_err-truth : goal.returns-in_err-truth
returns-in_err-truth c =
    let first : List Form = noted truth (forms_of c.args.self.now) in
    result_from_fault (IsNumbered (noted falsity first) truth c.note.new.self) first (noted falsity first) c.in_err-truth.field-0.0 c.from_residual.result c.from_residual.ensures.1
    (extends_noted falsity first first (extends_same first first refl)) c.in_err-truth.ensures

pub returns-in_err-note : goal.returns-in_err-note
returns-in_err-note c =
    let first : List Form = noted truth (forms_of c.args.self.now) in
    result_from_fault (IsNumbered (noted falsity first) truth c.note-2.new.self) (noted falsity (forms_of c.note.new.self)) (noted falsity first) c.in_err-note.field-0.0 c.from_residual-in_err-note.result c.from_residual-in_err-note.ensures.1
    (extends_same (noted falsity (forms_of c.note.new.self)) (noted falsity first) (ap (noted falsity) c.in_ok-truth.ensures.forms)) c.in_err-note.ensures

pub returns : goal.returns
returns c = numbered_noted (noted truth (forms_of c.args.self.now)) truth falsity c.note.new.self c.note-2.new.self c.in_ok-truth.truth c.in_ok-truth.ensures c.in_ok-note.ensures.forms
