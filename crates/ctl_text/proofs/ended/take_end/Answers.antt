use Rattle.std.proofs.Common.{map, ap}
use Rattle.ctl_form.specs.declared.pair_spec.PairSpec.{PairSpec}
use Rattle.ctl_form.specs.Form.{form_of}
use Rattle.ctl_text.specs.inside.View.{parts_of, state_of}
use Rattle.ctl_text.proofs.SaidTaken.{role_ended, with_clauses, kind_ended}
use Rattle.ctl_text.proofs.ended.take_end.Goals as goal

pub returns-in_ok-reader-in-InRole-clause-taken : goal.returns-in_ok-reader-in-InRole-clause-taken
returns-in_ok-reader-in-InRole-clause-taken c =
    let sound = rw c.in-InRole.is at c.requires.sound in
    let may = rw c.in-InRole.is at c.requires.may in
    let own = c.in_ok-pairs-in-InRole in
    rw c.in-InRole.is (role_ended (state_of c.args.reader).parts (parts_of c.in-InRole.role) own.pairs own.sets c.in_ok-reader-in-InRole.field-0.items sound may own.ensures.free own.ensures.grown own.ensures.sets c.in_ok-reader-in-InRole.ensures)

pub returns-in_ok-reader-in-InKind-clause-taken : goal.returns-in_ok-reader-in-InKind-clause-taken
returns-in_ok-reader-in-InKind-clause-taken c =
    let k : PairSpec = record { name = c.in-InKind.name; role_a = c.in-InKind.role_a; role_b = c.in-InKind.role_b; clauses = map form_of c.in-InKind.clauses.items } in
    let made : PairSpec = record { name = c.in-InKind.name; role_a = c.in-InKind.role_a; role_b = c.in-InKind.role_b; clauses = c.from_vec-clauses.result } in
    let same = ap (with_clauses c.in-InKind.name c.in-InKind.role_a c.in-InKind.role_b) c.from_vec-clauses.ensures in
    let sound = rw c.in-InKind.is at c.requires.sound in
    rw c.in-InKind.is (kind_ended (state_of c.args.reader).parts k made c.in_ok-reader-in-InKind.field-0 same sound c.in_ok-reader-in-InKind.ensures.free c.in_ok-reader-in-InKind.ensures.grown)
