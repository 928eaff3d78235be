use Rattle.deletion_rules.specs.inside.Edges.{AreArrows}
use Rattle.deletion_rules.proofs.edges.arrows_of.Given as goal

abbrev pub invariant-loop-and : goal.invariant-loop-and
invariant-loop-and l = AreArrows l.t l.and l.arrows
