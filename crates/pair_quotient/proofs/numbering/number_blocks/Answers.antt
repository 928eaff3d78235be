use Rattle.std.proofs.Common.{◌≡◌, ◌<◌, ◌∙◌, arith, subst, length, slice_index}
use Rattle.std.proofs.lemmas.Grind.{get_or_default_zero}
use Rattle.pair_quotient.specs.inside.Numbering.{IsNumberedBelow}
use Rattle.pair_quotient.proofs.NumberingLaws.{IsNumberedBelow-next, first_numbered, IsNumbering-from}
use Rattle.pair_quotient.proofs.numbering.number_blocks.Goals as goal

pub number_state-requires : goal.number_state-requires
number_state-requires c = λ differ.
    let within : slice_index c.args.blocks.now c.loop-state.state < length c.in_ok-firsts.firsts.items = omega (arith, c.requires c.loop-state.state c.loop-state-test.true, c.in_ok-firsts.ensures.long) in
    let read : c.index-first.result.now ≡ slice_index c.in_ok-firsts.firsts.items (slice_index c.args.blocks.now c.loop-state.state) = c.index-first.ensures ∙ get_or_default_zero c.in_ok-firsts.firsts.items (slice_index c.args.blocks.now c.loop-state.state) c.index-first.result.now within in
    let below = first_numbered c.args.blocks.now c.in_ok-firsts.firsts.items c.args.count c.loop-state.state c.loop-state-test.true c.in_ok-firsts.ensures (λ e. differ (read ∙ e)) in
    omega (arith, read, below, c.loop-state.invariant.long)

pub loop-state-preserved : goal.loop-state-preserved
loop-state-preserved c =
    let within : slice_index c.args.blocks.now c.loop-state.state < length c.in_ok-firsts.firsts.items = omega (arith, c.requires c.loop-state.state c.loop-state-test.true, c.in_ok-firsts.ensures.long) in
    let read : c.index-first.result.now ≡ slice_index c.in_ok-firsts.firsts.items (slice_index c.args.blocks.now c.loop-state.state) = c.index-first.ensures ∙ get_or_default_zero c.in_ok-firsts.firsts.items (slice_index c.args.blocks.now c.loop-state.state) c.index-first.result.now within in
    IsNumberedBelow-next c.args.blocks.now c.in_ok-firsts.firsts.items c.loop-state.classes.items c.loop-state.lowest.items _ _ c.args.count c.loop-state.state c.index-first.result.now c.loop-state-test.true c.in_ok-firsts.ensures read c.in_ok-number_state.ensures c.loop-state.invariant

pub returns : goal.returns
returns c =
    let end : c.loop-state.state ≡ length c.args.blocks.now = omega (arith, c.loop-state-test.false, c.loop-state.auto.state-end) in
    IsNumbering-from _ _ _ _ _ c.in_ok-firsts.ensures (subst (λ n. IsNumberedBelow c.args.blocks.now c.in_ok-firsts.firsts.items n c.loop-state.classes.items c.loop-state.lowest.items) end c.loop-state.invariant)
