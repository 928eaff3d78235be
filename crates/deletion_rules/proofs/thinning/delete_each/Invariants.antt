use Rattle.deletion_rules.specs.inside.Thinning.{Deletes}
use Rattle.deletion_rules.proofs.thinning.delete_each.Given as goal

abbrev pub invariant-loop-arrow : goal.invariant-loop-arrow
invariant-loop-arrow l = Deletes l.t l.initial.thinning l.initial.nodes.items l.thinning l.nodes.items
