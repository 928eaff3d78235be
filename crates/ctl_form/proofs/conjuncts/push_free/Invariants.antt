use Rattle.std.proofs.Common.{◌≡◌, ◌++◌, map, take}
use Rattle.ctl_form.specs.Form.{form_of}
use Rattle.ctl_form.specs.Kind.{free_forms}
use Rattle.ctl_form.proofs.conjuncts.push_free.Given as goal

abbrev pub invariant-loop-arc : goal.invariant-loop-arc
invariant-loop-arc l = map form_of l.forms.items ≡ map form_of l.initial.forms.items ++ free_forms l.side (take l.arc-index l.arcs)
