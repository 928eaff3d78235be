use Rattle.waitfor_check.specs.inside.Begins.{AreBeginsBelow}
use Rattle.waitfor_check.proofs.begins.begins_of.Given as goal

abbrev pub invariant-loop-e : goal.invariant-loop-e
invariant-loop-e l = AreBeginsBelow l.system l.e l.begins.items
