use Rattle.std.proofs.Common.{ℕ, ◌≡◌, ◌≤◌, ◌*◌, ◌+◌, length, get_or, map, set, arith, ap, ◌∙◌, subst}
use Rattle.std.specs.List.{flat_map, range_with_len}
use Rattle.waitfor_check.specs.Star.{leaf_side, leaf_structure}
use Rattle.waitfor_check.specs.Steps.{reached}
use Rattle.waitfor_check.specs.inside.Walk.{AreMembers}
use Rattle.waitfor_check.proofs.Counts.{product_more, product_within}
use Rattle.waitfor_check.proofs.Rows.{row_members, row_missing}
use Rattle.waitfor_check.proofs.leaf.walk_leaves.Goals as goal

pub returns-in-Missing-clause-walked : goal.returns-in-Missing-clause-walked
returns-in-Missing-clause-walked c = row_missing c.args.star.now.members (λ i. map (set c.args.states.now i) (reached (leaf_structure c.args.system.now c.args.star.now.shape i) (leaf_side c.args.star.now.shape i) (get_or c.args.states.now i 0))) c.loop-i.i (length c.args.star.now.shape.leaves) c.loop-i.count c.in-Missing.at (omega (arith, c.loop-i-test.true, c.requires.states.count)) c.loop-i.invariant.members c.in-Missing.ensures.walked

pub returns-in-Missing-clause-bounded : goal.returns-in-Missing-clause-bounded
returns-in-Missing-clause-bounded c = omega (arith, product_more c.loop-i.i (length c.args.star.now.members) c.loop-i.count c.in-Missing.at c.loop-i.invariant.few c.in-Missing.ensures.bounded, product_within (c.loop-i.i + 1) (length c.args.star.now.shape.leaves) (length c.args.star.now.members) (omega (arith, c.loop-i-test.true, c.requires.states.count)))

pub loop-i-preserved : goal.loop-i-preserved
loop-i-preserved c = record {
  target = c.in-All.ensures.target;
  members = row_members c.args.star.now.members (λ i. map (set c.args.states.now i) (reached (leaf_structure c.args.system.now c.args.star.now.shape i) (leaf_side c.args.star.now.shape i) (get_or c.args.states.now i 0))) c.loop-i.i c.loop-i.count c.in-All.more c.loop-i.invariant.members c.in-All.ensures.walked;
  few = product_more c.loop-i.i (length c.args.star.now.members) c.loop-i.count c.in-All.more c.loop-i.invariant.few c.in-All.ensures.bounded;
}

pub returns-clause-walked : goal.returns-clause-walked
returns-clause-walked c =
    let end : c.loop-i.i ≡ length c.args.star.now.shape.leaves = omega (arith, c.loop-i-test.false, c.loop-i.auto.i-end, c.requires.states.count) in
    subst (λ n. AreMembers c.args.star.now.members (flat_map (λ i. map (set c.args.states.now i) (reached (leaf_structure c.args.system.now c.args.star.now.shape i) (leaf_side c.args.star.now.shape i) (get_or c.args.states.now i 0))) (range_with_len 0 n)) c.loop-i.count) end c.loop-i.invariant.members
