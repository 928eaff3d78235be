use Rattle.std.proofs.Common.{◌≡◌, map, take}
use Rattle.ctl_form.specs.Form.{form_of}
use Rattle.ctl_form.proofs.clauses.copies.Given as goal

abbrev pub invariant-loop-form : goal.invariant-loop-form
invariant-loop-form l = map form_of l.made.items ≡ map form_of (take l.form-index l.forms)
