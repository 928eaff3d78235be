use Rattle.deletion_rules.specs.inside.Tests.{AreLivingOrs}
use Rattle.deletion_rules.proofs.deleting.living_ors.Given as goal

abbrev pub invariant-loop-or : goal.invariant-loop-or
invariant-loop-or l = AreLivingOrs l.t l.lives l.or l.ors.items
