use Rattle.std.proofs.Common.{subst, sym}
use Rattle.ctl_form.specs.Form.{form_of}
use Rattle.ctl_form.specs.Row.{IsTruthOf}
use Rattle.ctl_form.proofs.Known.{AreKnown-found, AreKnown-kept}
use Rattle.ctl_form.proofs.holds.«+labelling».Goals as goal

pub row_of_one-returns-clause-truth : goal.row_of_one-returns-clause-truth
row_of_one-returns-clause-truth t c = c.one_row.ensures (form_of c.args.f.now) c.in_ok-p.ensures.truth

pub row_of_two-returns-clause-truth : goal.row_of_two-returns-clause-truth
row_of_two-returns-clause-truth t c = c.two_rows.ensures (form_of c.args.f.now) (form_of c.args.g.now) c.in_ok-p.ensures.truth c.in_ok-q.ensures.truth

pub truth_row-returns-in-Some-clause-truth : goal.truth_row-returns-in-Some-clause-truth
truth_row-returns-in-Some-clause-truth t c =
    let row = AreKnown-found c.args.m.now c.args.known.now c.in_ok-code.code c.in-Some.row.now (form_of c.args.f.now) c.in_ok-code.ensures c.in-Some.ensures.value c.requires.known in
    subst (λ row. IsTruthOf c.args.m.now (form_of c.args.f.now) row) (sym c.in_ok-row.ensures) row

pub truth_row-returns-clause-known : goal.truth_row-returns-clause-known
truth_row-returns-clause-known t c =
    let kept = subst (λ row. IsTruthOf c.args.m.now (form_of c.args.f.now) row) (sym c.in_ok-kept.ensures) c.in_ok-row-2.ensures.truth in
    AreKnown-kept c.args.m.now c.labelled.new.known c.insert.new.self c.in_ok-code.code c.in_ok-kept.kept (form_of c.args.f.now) c.in_ok-code.ensures kept c.in_ok-insert.ensures.updates.0 c.in_ok-row-2.ensures.known
