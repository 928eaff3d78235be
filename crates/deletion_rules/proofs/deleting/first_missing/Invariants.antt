use Rattle.deletion_rules.specs.Marks.{lists_of}
use Rattle.deletion_rules.specs.inside.Tests.{NoneMissing}
use Rattle.deletion_rules.proofs.deleting.first_missing.Given as goal

abbrev pub invariant-loop-target : goal.invariant-loop-target
invariant-loop-target l = NoneMissing l.t (lists_of l.table) l.n l.target-index l.targets
