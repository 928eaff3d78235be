use Rattle.std.proofs.Common.{inl, inr, length, arith, ap}
use Rattle.pair_quotient.proofs.RefineEnds.{AreRefined-from_outset, few_blocks, falls, some_left, none_left, empty_of}
use Rattle.pair_quotient.proofs.RefineLaws.{IsStable-refined}
use Rattle.pair_quotient.proofs.refining.stable_blocks.Goals as goal

pub loop-alloc-init : goal.loop-alloc-init
loop-alloc-init c = AreRefined-from_outset c.args.m.now c.states-states.result.now _ _ _ _ _ c.states-states.ensures.states (record {
  blocks = c.in_ok-blocks.ensures.blocks;
  same = c.in_ok-blocks.ensures.same;
  none = c.in_ok-settled.ensures;
  within = c.in_ok-waiting.ensures.within;
  each = c.in_ok-waiting.ensures.each;
})

pub loop-alloc-smaller : goal.loop-alloc-smaller
loop-alloc-smaller c =
    let few = few_blocks _ _ _ _ c.in_ok-waiting-2.ensures.refined.blocks in
    falls (length c.args.m.now.states) (length c.loop-alloc.blocks.leaders.items) (length c.pass.new.blocks.leaders.items) (length c.in_ok-waiting-2.waiting.items) (length c.loop-alloc.waiting.items) (omega (arith, some_left _ c.loop-alloc-test.ensures, c.loop-alloc.waiting.ok)) c.in_ok-waiting-2.ensures.more few (elim c.in_ok-waiting-2.ensures.progress [ inl e ↦ inl (ap length e) | inr lt ↦ inr lt ])

pub returns : goal.returns
returns c = record { stable = IsStable-refined _ _ _ _ _ _ (empty_of _ (omega (arith, none_left _ c.loop-alloc-test.ensures, c.loop-alloc.waiting.ok))) c.loop-alloc.invariant; within = λ s lt. c.loop-alloc.invariant.blocks.within s (let long = c.loop-alloc.invariant.blocks.long in omega (arith, lt, long)) }
