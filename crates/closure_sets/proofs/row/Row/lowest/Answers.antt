use Rattle.std.proofs.Common.{arith, sym, ◌∙◌}
use Rattle.closure_sets.specs.Row.{set_of}
use Rattle.closure_sets.proofs.Lowest.{lowest_none}
use Rattle.closure_sets.proofs.Words.{lowest_below}
use Rattle.closure_sets.proofs.row.Row.lowest.Goals as goal

pub returns-then-word-ne0 : goal.returns-then-word-ne0
returns-then-word-ne0 c = c.below.ensures ∙ lowest_below c.args.self.now.words c.loop-place.place c.first_bit.result c.args.count c.first_bit.ensures c.loop-place.invariant

pub returns : goal.returns
returns c = sym (lowest_none c.args.count (set_of c.args.self.now.words) (λ i lt. c.loop-place.invariant i (let few = c.requires in let end = c.loop-place-test.false in omega (arith, lt, few, end))))
