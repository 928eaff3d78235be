use Rattle.std.proofs.Common.{arith}
use Rattle.ctl_form.specs.Form.{Form, form_of}
use Rattle.ctl_form.specs.Members.{forms_of}
use Rattle.ctl_form.specs.MemberTable.{IsNumbered}
use Rattle.ctl_form.specs.Normal.{normal}
use Rattle.ctl_form.specs.Walk.{walk}
use Rattle.ctl_form.specs.inside.Walking.{joined, nexts}
use Rattle.ctl_form.proofs.MemberWalkLaws.{result_from_fault, grown_after, numbered_first, two_walked, extends_first, extends_second, next_walked, extends_next}
use Rattle.ctl_form.proofs.members.Members.+walking.Goals as goal

pub root_of_two-returns-in_err-first : goal.root_of_two-returns-in_err-first
root_of_two-returns-in_err-first t c =
    let old = c.args.self.now in
    let f : Form = normal c.args.f_is (form_of c.args.f.now) in
    let h : Form = joined c.args.joint f (normal c.args.g_is (form_of c.args.g.now)) in
    result_from_fault (IsNumbered (walk h (forms_of old)) h c.root_of.new.self) (walk f (forms_of old)) (walk h (forms_of old)) c.in_err-first.field-0.0 c.from_residual.result c.from_residual.ensures.1
    (extends_first c.args.joint f (normal c.args.g_is (form_of c.args.g.now)) (forms_of old) c.requires) c.in_err-first.ensures

pub root_of_two-root_of-requires-2 : goal.root_of_two-root_of-requires-2
root_of_two-root_of-requires-2 t c =
    (omega arith, grown_after c.args.self.now c.root_of.new.self (normal c.args.f_is (form_of c.args.f.now)) c.in_ok-first.first c.requires c.in_ok-first.ensures)

pub root_of_two-returns-in_err-second : goal.root_of_two-returns-in_err-second
root_of_two-returns-in_err-second t c =
    let old = c.args.self.now in
    let p = c.root_of.new.self in
    let g : Form = normal c.args.g_is (form_of c.args.g.now) in
    let h : Form = joined c.args.joint (normal c.args.f_is (form_of c.args.f.now)) g in
    result_from_fault (IsNumbered (walk h (forms_of old)) h c.root_of-2.new.self) (walk g (forms_of p)) (walk h (forms_of old)) c.in_err-second.field-0.0 c.from_residual-in_err-second.result c.from_residual-in_err-second.ensures.1
    (extends_second c.args.joint (normal c.args.f_is (form_of c.args.f.now)) g (forms_of old) (forms_of p) c.requires c.in_ok-first.ensures.forms) c.in_err-second.ensures

pub root_of_two-note_joined-requires-clause-f : goal.root_of_two-note_joined-requires-clause-f
root_of_two-note_joined-requires-clause-f t c =
    (numbered_first c.args.self.now c.root_of.new.self c.root_of-2.new.self (normal c.args.f_is (form_of c.args.f.now)) (normal c.args.g_is (form_of c.args.g.now)) c.in_ok-first.first c.in_ok-second.second c.in_ok-first.ensures c.in_ok-second.ensures).below

pub root_of_two-returns : goal.root_of_two-returns
root_of_two-returns t c =
    let f : Form = normal c.args.f_is (form_of c.args.f.now) in
    let g : Form = normal c.args.g_is (form_of c.args.g.now) in
    two_walked c.args.self.now c.root_of.new.self c.root_of-2.new.self c.note_joined.new.self c.args.joint f g c.in_ok-first.first c.in_ok-second.second c.note_joined.result c.requires c.in_ok-first.ensures c.in_ok-second.ensures c.note_joined.ensures

pub root_of_next-returns-in_err-first : goal.root_of_next-returns-in_err-first
root_of_next-returns-in_err-first t c =
    let old = c.args.self.now in
    let f : Form = normal c.args.is (form_of c.args.f.now) in
    let h : Form = nexts c.args.all c.args.side f in
    result_from_fault (IsNumbered (walk h (forms_of old)) h c.root_of.new.self) (walk f (forms_of old)) (walk h (forms_of old)) c.in_err-first.field-0.0 c.from_residual.result c.from_residual.ensures.1
    (extends_next c.args.all c.args.side f (forms_of old) c.requires) c.in_err-first.ensures

pub root_of_next-returns : goal.root_of_next-returns
root_of_next-returns t c =
    let f : Form = normal c.args.is (form_of c.args.f.now) in
    next_walked c.args.self.now c.root_of.new.self c.note_nexts.new.self c.args.all c.args.side f c.in_ok-first.first c.note_nexts.result c.requires c.in_ok-first.ensures c.note_nexts.ensures
