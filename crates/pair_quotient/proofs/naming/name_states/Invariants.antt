use Rattle.pair_quotient.specs.inside.Splitting.{AreTargets}
use Rattle.pair_quotient.proofs.naming.name_states.Given as goal

abbrev pub invariant-loop-state : goal.invariant-loop-state
invariant-loop-state l = AreTargets l.m l.classes l.initial.leaders.items l.initial.names l.states l.state-index l.leaders.items l.names l.targets.items
