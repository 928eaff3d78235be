use Rattle.deletion_rules.specs.inside.Thinning.{Loses}
use Rattle.deletion_rules.proofs.thinning.lose_each.Given as goal

abbrev pub invariant-loop-or : goal.invariant-loop-or
invariant-loop-or l = Loses l.t l.initial.thinning l.initial.ors.items l.thinning l.ors.items
