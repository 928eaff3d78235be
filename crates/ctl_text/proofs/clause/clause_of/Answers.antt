use Rattle.std.proofs.Common.{map}
use Rattle.ctl_form.specs.Form.{form_of}
use Rattle.ctl_form.specs.declared.pair_spec.PairSpec.{PairSpec}
use Rattle.ctl_text.specs.inside.View.{state_of}
use Rattle.ctl_text.proofs.Clauses.{atoms_are, clause_made, clause_refused}
use Rattle.ctl_text.proofs.clause.clause_of.Goals as goal

pub returns-in-Ok-clause-clause : goal.returns-in-Ok-clause-clause
returns-in-Ok-clause-clause c =
    let v = (state_of c.args.reader.now).parts in
    let a = atoms_are v c.in-InKind.role_a _ _ (rw c.roles.ensures at c.locals_at-a.ensures.locals) (rw c.deref.ensures.value at c.sets_at-a_sets.ensures) in
    let b = atoms_are v c.in-InKind.role_b _ _ (rw c.roles-in-InKind.ensures at c.locals_at-b.ensures.locals) (rw c.deref-in-InKind.ensures.value at c.sets_at-b_sets.ensures) in
    let k : PairSpec = record { name = c.in-InKind.name; role_a = c.in-InKind.role_a; role_b = c.in-InKind.role_b; clauses = map form_of c.in-InKind.clauses.items } in
    rw c.in-InKind.is (clause_made (state_of c.args.reader.now).parts k _ _ _ _ a b c.in-Ok.ensures.spelled)

pub returns-in-Err-clause-refused : goal.returns-in-Err-clause-refused
returns-in-Err-clause-refused c =
    let v = (state_of c.args.reader.now).parts in
    let a = atoms_are v c.in-InKind.role_a _ _ (rw c.roles.ensures at c.locals_at-a.ensures.locals) (rw c.deref.ensures.value at c.sets_at-a_sets.ensures) in
    let b = atoms_are v c.in-InKind.role_b _ _ (rw c.roles-in-InKind.ensures at c.locals_at-b.ensures.locals) (rw c.deref-in-InKind.ensures.value at c.sets_at-b_sets.ensures) in
    let k : PairSpec = record { name = c.in-InKind.name; role_a = c.in-InKind.role_a; role_b = c.in-InKind.role_b; clauses = map form_of c.in-InKind.clauses.items } in
    rw c.in-InKind.is (clause_refused (state_of c.args.reader.now).parts k _ _ _ _ a b c.in-Err.ensures.refused)
