use Rattle.std.proofs.Common.{◌≡◌, take}
use Rattle.closure_sets.proofs.closure.parts_of.Given as goal

abbrev pub invariant-loop-member : goal.invariant-loop-member
invariant-loop-member l = l.parts.items ≡ take l.member l.form.parts
