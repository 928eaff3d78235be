use Rattle.std.proofs.Common.{◌≤◌, ◌<◌, ◌+◌, ◌*◌, length, arith}
use Rattle.ctl_form.specs.Form.{form_of}
use Rattle.formula_text.proofs.Spelled.{none_outside, rest_outside, end_spelled}
use Rattle.formula_text.proofs.formula_reader.formula_of.Goals as goal

pub returns-in-Some-default-empty-clause-some : goal.returns-in-Some-default-empty-clause-some
returns-in-Some-default-empty-clause-some c =
    end_spelled (5 * c.args.count + 5) c.args.signs.now (form_of c.in-Some-default-empty.f) c.in-Some-default-empty.field-0-1.now (rw c.in-Some-default-empty.is at c.in_ok-f.ensures) c.in-Some-default-empty.len_below

pub returns-in-Some-clause-none : goal.returns-in-Some-clause-none
returns-in-Some-clause-none c =
    let le : 5 * length c.args.signs.now + 5 ≤ 5 * c.args.count + 5 = omega arith in
    let some : 0 < length c.in-Some.field-0-1.now = omega arith in
    rest_outside (5 * c.args.count + 5) c.args.signs.now (form_of c.in-Some.field-0-0) c.in-Some.field-0-1.now le (rw c.in-Some.is at c.in_ok-f.ensures) some

pub returns-in-None-clause-none : goal.returns-in-None-clause-none
returns-in-None-clause-none c =
    let le : 5 * length c.args.signs.now + 5 ≤ 5 * c.args.count + 5 = omega arith in
    none_outside (5 * c.args.count + 5) c.args.signs.now le (rw c.in-None.is at c.in_ok-f.ensures)
