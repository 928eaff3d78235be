use Rattle.std.proofs.Common.{◌≡◌, ◌++◌, take, map}
use Rattle.std.specs.List.{flat_map}
use Rattle.ctl_form.specs.Form.{form_of}
use Rattle.ctl_text.specs.SpecText.{ended, require_text}
use Rattle.ctl_text.proofs.spec_writer.write_requires.Given as goal

abbrev pub invariant-loop-clause : goal.invariant-loop-clause
invariant-loop-clause l = l.into.items ≡ l.initial.into.items ++ flat_map ended (map (require_text l.a l.b) (map form_of (take l.clause-index l.clauses)))
