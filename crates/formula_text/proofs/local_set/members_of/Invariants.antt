use Rattle.std.proofs.Common.{◌≡◌, drop}
use Rattle.formula_text.specs.Sets.{members_of}
use Rattle.formula_text.proofs.local_set.members_of.Given as goal

abbrev pub invariant-loop-set : goal.invariant-loop-set
invariant-loop-set l = members_of (drop l.set-index l.sets) l.name ≡ members_of l.sets l.name
