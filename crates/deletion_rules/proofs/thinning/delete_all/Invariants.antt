use Rattle.std.proofs.Common.{[]}
use Rattle.deletion_rules.specs.inside.Thinning.{Deletes}
use Rattle.deletion_rules.proofs.thinning.delete_all.Given as goal

abbrev pub invariant-loop-or : goal.invariant-loop-or
invariant-loop-or l = Deletes l.t l.initial.thinning [] l.thinning l.nodes.items
