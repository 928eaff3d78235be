-- The normal form of a formula, and of its negation: negations stand at local states alone, each next-time names a side, and AG, EG, AF
-- and EF are untils.
use Rattle.std.specs.Prelude.{Bool, true, false, not, Some, None}
use Rattle.pair_structure.specs.declared.side.Side.TheVariants.{A, B}
use Rattle.ctl_form.specs.Form.{Form, truth, falsity, at, neg, both, either, implies, next, always, sometime, until}

-- at true the normal form, at false that of the negation
abbrev pub normal : Bool → Form → Form
normal true truth = truth
normal false truth = falsity
normal true falsity = falsity
normal false falsity = truth
normal true (at side local) = at side local
normal false (at side local) = neg (at side local)
normal b (neg f) = normal (not b) f
normal true (both f g) = both (normal true f) (normal true g)
normal false (both f g) = either (normal false f) (normal false g)
normal true (either f g) = either (normal true f) (normal true g)
normal false (either f g) = both (normal false f) (normal false g)
normal true (implies f g) = either (normal false f) (normal true g)
normal false (implies f g) = both (normal true f) (normal false g)
normal true (next all (Some side) f) = next all (Some side) (normal true f)
normal false (next all (Some side) f) = next (not all) (Some side) (normal false f)
normal true (next true None f) = both (next true (Some A) (normal true f)) (next true (Some B) (normal true f))
normal true (next false None f) = either (next false (Some A) (normal true f)) (next false (Some B) (normal true f))
normal false (next true None f) = either (next false (Some A) (normal false f)) (next false (Some B) (normal false f))
normal false (next false None f) = both (next true (Some A) (normal false f)) (next true (Some B) (normal false f))
normal true (always all f) = until all true (normal true f) falsity
normal false (always all f) = until (not all) false truth (normal false f)
normal true (sometime all f) = until all false truth (normal true f)
normal false (sometime all f) = until (not all) true (normal false f) falsity
normal true (until all weak f g) = until all weak (normal true f) (normal true g)
normal false (until all weak f g) = until (not all) (not weak) (normal false g) (both (normal false f) (normal false g))

-- at true the fact, at false its refutation
abbrev pub Says : Bool → Type 0 → Type 0
Says true X = X
Says false X = X → ⊥
