use Rattle.std.proofs.Common.{arith, length, get_or, [], ◌≡◌, ◌<◌, ◌≤◌, ◌+◌, ◌-◌, ◌/◌, ℕ, refl, List, sym, ◌∙◌, ap}
use Rattle.waitfor_check.proofs.Searches.{found_at, narrowed_high, narrowed_low, narrowed_none}
use Rattle.std.specs.Cmp.Lexicographic.{slice_cmp}
use Rattle.std.specs.Ordering.{nat_cmp}
use Rattle.waitfor_check.proofs.members.Members.has.Goals as goal

pub loop-low-preserved-in-Less : goal.loop-low-preserved-in-Less
loop-low-preserved-in-Less c =
    let middle = c.loop-low.low + (c.loop-low.high - c.loop-low.low) / 2 in
    narrowed_low c.args.self.now c.args.states.now c.loop-low.low middle c.loop-low.high c.requires c.loop-low.invariant (omega (arith, c.loop-low-test.true)) (ap (λ (xs : List ℕ). slice_cmp nat_cmp xs c.args.states.now) (sym c.at.ensures) ∙ sym c.cmp.ensures ∙ c.in-Less.is)

pub loop-low-preserved : goal.loop-low-preserved
loop-low-preserved c =
    let middle = c.loop-low.low + (c.loop-low.high - c.loop-low.low) / 2 in
    narrowed_high c.args.self.now c.args.states.now c.loop-low.low middle c.loop-low.high c.requires c.loop-low.invariant (omega arith) (omega (arith, c.loop-low-test.true)) (ap (λ (xs : List ℕ). slice_cmp nat_cmp xs c.args.states.now) (sym c.at.ensures) ∙ sym c.cmp.ensures ∙ c.in-Greater.is)

pub returns-in-Equal : goal.returns-in-Equal
returns-in-Equal c =
    let middle = c.loop-low.low + (c.loop-low.high - c.loop-low.low) / 2 in
    (λ ok. found_at c.args.self.now c.args.states.now middle (omega (arith, c.loop-low-test.true, c.loop-low.invariant.within)) (ap (λ (xs : List ℕ). slice_cmp nat_cmp xs c.args.states.now) (sym c.at.ensures) ∙ sym c.cmp.ensures ∙ c.in-Equal.is), λ has. refl)

pub returns : goal.returns
returns c = (λ never. cc, λ has. absurd (narrowed_none c.args.self.now c.args.states.now c.loop-low.low c.loop-low.high c.loop-low.invariant (omega (arith, c.loop-low-test.false)) has))
