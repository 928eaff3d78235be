use Rattle.std.proofs.Common.{arith, slice_index_or}
use Rattle.std.proofs.lemmas.Grind.{get_or_default_zero}
use Rattle.deletion_rules.proofs.ReachingLaws.{reaching_begin, reaching_end, reaching_step}
use Rattle.deletion_rules.proofs.reaching.reach_each.Goals as goal

pub loop-or-init : goal.loop-or-init
loop-or-init c = reaching_begin c.args.ors.now c.args.reached.now c.args.fresh.now.items

pub reach_one-requires : goal.reach_one-requires
reach_one-requires c =
    let lt = c.requires (slice_index_or c.args.ors.now c.loop-or.or-index 0) (c.loop-or.or-index, c.loop-or-test.true, get_or_default_zero c.args.ors.now c.loop-or.or-index (slice_index_or c.args.ors.now c.loop-or.or-index 0) c.loop-or-test.true) in
    let long = c.loop-or.invariant.long in
    omega (arith, lt, long)

pub loop-or-preserved : goal.loop-or-preserved
loop-or-preserved c = reaching_step c.args.ors.now c.loop-or.or-index c.args.reached.now c.loop-or.reached c.reach_one.new.reached c.args.fresh.now.items c.loop-or.fresh.items c.reach_one.new.fresh.items c.loop-or-test.true c.loop-or.invariant c.in_ok-reach_one.ensures

pub returns : goal.returns
returns c = reaching_end c.args.ors.now c.loop-or.or-index c.args.reached.now c.loop-or.reached c.args.fresh.now.items c.loop-or.fresh.items c.loop-or-test.false c.loop-or.invariant
