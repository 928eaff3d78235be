use Rattle.conjunctive_compose.specs.System.{HasCommandsBelow}
use Rattle.conjunctive_compose.proofs.making.skeletons_of.Given as goal

abbrev pub invariant-loop-kind : goal.invariant-loop-kind
invariant-loop-kind l = HasCommandsBelow l.kind l.network l.structures l.skeletons.items
