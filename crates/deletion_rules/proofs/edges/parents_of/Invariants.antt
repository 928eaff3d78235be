use Rattle.deletion_rules.specs.inside.Edges.{AreParents}
use Rattle.deletion_rules.proofs.edges.parents_of.Given as goal

abbrev pub invariant-loop-or : goal.invariant-loop-or
invariant-loop-or l = AreParents l.t l.or l.parents
