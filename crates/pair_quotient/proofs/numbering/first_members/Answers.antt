use Rattle.std.proofs.Common.{◌≡◌, ◌<◌, ◌+◌, ◌-◌, arith, length, subst}
use Rattle.pair_quotient.specs.inside.Numbering.{AreFirsts}
use Rattle.pair_quotient.proofs.NumberingLaws.{AreFirsts-step}
use Rattle.pair_quotient.proofs.numbering.first_members.Goals as goal

pub loop-state-preserved : goal.loop-state-preserved
loop-state-preserved c =
    let n = c.loop-state.state - 1 in
    let next : c.loop-state.state ≡ c.loop-state.state - 1 + 1 = omega (arith, c.loop-state-test.true) in
    let lt : c.loop-state.state - 1 < length c.args.blocks.now = omega (arith, c.loop-state.invariant.within, c.loop-state-test.true) in
    record {
      within = omega (arith, lt);
      firsts = AreFirsts-step _ _ _ _ lt (c.requires (c.loop-state.state - 1) lt) (subst (λ i. AreFirsts c.args.blocks.now c.args.count i c.loop-state.firsts.items) next c.loop-state.invariant.firsts);
    }

pub index_mut-requires : goal.index_mut-requires
index_mut-requires c =
    let lt : c.loop-state.state - 1 < length c.args.blocks.now = omega (arith, c.loop-state.invariant.within, c.loop-state-test.true) in
    omega (arith, c.requires (c.loop-state.state - 1) lt, c.loop-state.invariant.firsts.long, c.loop-state.firsts.ok)
