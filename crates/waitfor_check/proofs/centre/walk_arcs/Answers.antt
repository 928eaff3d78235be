use Rattle.std.proofs.Common.{ℕ, ◌≡◌, ◌<◌, ◌≤◌, ◌+◌, List, length, arith, ap, ◌∙◌, sym, subst}
use Rattle.std.specs.List.{flat_map, range_with_len}
use Rattle.pair_structure.specs.Parts.{role_at}
use Rattle.waitfor_check.specs.Steps.{centre_steps, steps_on}
use Rattle.waitfor_check.specs.Closed.{IsFirstMissing}
use Rattle.waitfor_check.specs.inside.Walk.{AreMembers}
use Rattle.waitfor_check.proofs.ArcSteps.{centre_steps_differ, rows_differ}
use Rattle.waitfor_check.proofs.Rows.{centre_rows, row_members, row_missing}
use Rattle.waitfor_check.proofs.Walks.{at_bound, count_bound}
use Rattle.waitfor_check.proofs.centre.walk_arcs.Goals as goal

pub returns-in-Missing-clause-walked : goal.returns-in-Missing-clause-walked
returns-in-Missing-clause-walked c =
    let here = rw c.in-Missing.is at c.in_ok-more.ensures.walked in
    let in' = rw c.requires.arcs at c.loop-arc-test.true in
    subst (λ xs. IsFirstMissing c.args.star.now.members xs (c.loop-arc.count + c.in-Missing.at)) (sym (centre_rows c.args.system.now c.args.star.now.shape c.args.states.now)) (row_missing c.args.star.now.members (steps_on c.args.system.now c.args.star.now.shape c.args.states.now) c.loop-arc.arc _ c.loop-arc.count c.in-Missing.at in' c.loop-arc.invariant.members here)

pub returns-in-Missing-clause-bounded : goal.returns-in-Missing-clause-bounded
returns-in-Missing-clause-bounded c =
    let here = rw c.in-Missing.is at c.in_ok-more.ensures.walked in
    let in' = rw c.requires.arcs at c.loop-arc-test.true in
    let missing = subst (λ xs. IsFirstMissing c.args.star.now.members xs (c.loop-arc.count + c.in-Missing.at)) (sym (centre_rows c.args.system.now c.args.star.now.shape c.args.states.now)) (row_missing c.args.star.now.members (steps_on c.args.system.now c.args.star.now.shape c.args.states.now) c.loop-arc.arc _ c.loop-arc.count c.in-Missing.at in' c.loop-arc.invariant.members here) in
    at_bound c.args.star.now.members (centre_steps c.args.system.now c.args.star.now.shape c.args.states.now) (c.loop-arc.count + c.in-Missing.at) (centre_steps_differ c.args.system.now c.args.star.now.shape c.args.states.now c.network-network.ensures.system c.requires.kinds c.requires.some) missing

pub loop-arc-preserved : goal.loop-arc-preserved
loop-arc-preserved c =
    let here = rw c.in-All.is at c.in_ok-more.ensures.walked in
    let in' = rw c.requires.arcs at c.loop-arc-test.true in
    let all = row_members c.args.star.now.members (steps_on c.args.system.now c.args.star.now.shape c.args.states.now) c.loop-arc.arc c.loop-arc.count c.in-All.more c.loop-arc.invariant.members here in
    record {
      members = all;
      few = count_bound c.args.star.now.members (flat_map (steps_on c.args.system.now c.args.star.now.shape c.args.states.now) (range_with_len 0 (c.loop-arc.arc + 1))) (c.loop-arc.count + c.in-All.more) (rows_differ c.args.system.now c.args.star.now.shape c.args.states.now (c.loop-arc.arc + 1) c.network-network.ensures.system c.requires.kinds c.requires.some (omega (arith, in'))) all;
      room = c.in_ok-more.ensures.room;
    }

pub returns-clause-walked : goal.returns-clause-walked
returns-clause-walked c =
    let end : c.loop-arc.arc ≡ length c.args.arcs.now = omega (arith, c.loop-arc-test.false, c.loop-arc.auto.arc-end) in
    subst (λ xs. AreMembers c.args.star.now.members xs c.loop-arc.count) (ap (λ n. flat_map (steps_on c.args.system.now c.args.star.now.shape c.args.states.now) (range_with_len 0 n)) (end ∙ ap {B = ℕ} length c.requires.arcs) ∙ sym (centre_rows c.args.system.now c.args.star.now.shape c.args.states.now)) c.loop-arc.invariant.members
