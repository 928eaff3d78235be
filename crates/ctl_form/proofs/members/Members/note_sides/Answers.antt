use Rattle.std.proofs.Common.{Some, List, Err, Ok, refl}
use Rattle.pair_structure.specs.declared.side.Side.TheVariants.{A, B}
use Rattle.ctl_form.specs.Form.{Form, next}
use Rattle.ctl_form.specs.Members.{form_at, forms_of}
use Rattle.ctl_form.specs.MemberTable.{IsNumbered}
use Rattle.ctl_form.specs.Walk.{noted}
use Rattle.ctl_form.specs.inside.Walking.{AreSides, noted_sides}
use Rattle.ctl_form.proofs.MemberWalkLaws.{extends_same, extends_noted, result_from_fault, numbered_kept, second_side, numbered_still}
use Rattle.ctl_form.proofs.members.Members.note_sides.Goals as goal

pub returns-in_err-a : goal.returns-in_err-a
returns-in_err-a c =
    let forms : List Form = forms_of c.args.self.now in
    let f : Form = form_at forms c.args.f in
    let a : List Form = noted (next c.args.all (Some A) f) forms in
    result_from_fault (AreSides c.args.all f forms c.note_next.new.self) a (noted_sides c.args.all f forms) c.in_err-a.field-0.0 c.from_residual.result c.from_residual.ensures.1
    (extends_noted (next c.args.all (Some B) f) a a (extends_same a a refl)) c.in_err-a.ensures

pub note_next-requires-2 : goal.note_next-requires-2
note_next-requires-2 c =
    let f : Form = form_at (forms_of c.args.self.now) c.args.f in
    (numbered_kept c.args.self.now c.note_next.new.self (next c.args.all (Some A) f) c.args.f c.requires c.in_ok-a.ensures.forms).below

pub returns-in_err-b : goal.returns-in_err-b
returns-in_err-b c =
    let forms : List Form = forms_of c.args.self.now in
    let f : Form = form_at forms c.args.f in
    let both : List Form = noted_sides c.args.all f forms in
    result_from_fault (AreSides c.args.all f forms c.note_next-2.new.self) both both c.in_err-b.field-0.0 c.from_residual-in_err-b.result c.from_residual-in_err-b.ensures.1 (extends_same both both refl)
    (second_side c.args.self.now c.note_next.new.self c.note_next-2.new.self c.args.all c.args.f c.in_ok-a.a (Err c.in_err-b.field-0.0) c.requires c.in_ok-a.ensures c.in_err-b.ensures)

pub returns : goal.returns
returns c =
    let forms : List Form = forms_of c.args.self.now in
    let f : Form = form_at forms c.args.f in
    let a : List Form = noted (next c.args.all (Some A) f) forms in
    let second : IsNumbered (noted_sides c.args.all f forms) (next c.args.all (Some B) f) c.note_next-2.new.self c.in_ok-b.b =
    second_side c.args.self.now c.note_next.new.self c.note_next-2.new.self c.args.all c.args.f c.in_ok-a.a (Ok c.in_ok-b.b) c.requires c.in_ok-a.ensures c.in_ok-b.ensures in
    record {
      a = numbered_still a (noted_sides c.args.all f forms) (next c.args.all (Some A) f) c.note_next.new.self c.note_next-2.new.self c.in_ok-a.a c.in_ok-a.ensures (extends_noted (next c.args.all (Some B) f) a a (extends_same a a refl)) second.forms;
      b = second;
    }
