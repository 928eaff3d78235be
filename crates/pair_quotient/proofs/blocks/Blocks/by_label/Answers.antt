use Rattle.std.proofs.Common.{◌≡◌, arith, length, subst}
use Rattle.pair_structure.specs.Structure.{label_at}
use Rattle.pair_quotient.specs.inside.Labelling.{AreLabelled, IsLabelPut}
use Rattle.pair_quotient.proofs.LabelLaws.{AreLabelled-next, AreBlocks-labelled, same_blocks, block_there}
use Rattle.pair_quotient.proofs.blocks.Blocks.by_label.Goals as goal

pub add-requires-clause-block : goal.add-requires-clause-block
add-requires-clause-block c =
    let next : c.len-next.result ≡ length c.loop-state.blocks.leaders.items = omega (arith, c.len-next.ensures, c.loop-state.blocks.leaders.ok) in
    block_there c.args.labels.now c.loop-state.state c.loop-state.numbers c.label_block.new.numbers c.loop-state.blocks.classes.items c.loop-state.blocks.leaders.items c.loop-state.blocks.members (label_at c.args.labels.now c.loop-state.state) c.in_ok-block.block c.loop-state.invariant (subst (λ n. IsLabelPut c.loop-state.numbers (label_at c.args.labels.now c.loop-state.state) n c.label_block.new.numbers c.in_ok-block.block) next c.in_ok-block.ensures)

pub loop-state-preserved : goal.loop-state-preserved
loop-state-preserved c =
    let next : c.len-next.result ≡ length c.loop-state.blocks.leaders.items = omega (arith, c.len-next.ensures, c.loop-state.blocks.leaders.ok) in
    AreLabelled-next c.args.labels.now c.loop-state.state c.loop-state.numbers c.label_block.new.numbers c.loop-state.blocks.classes.items c.loop-state.blocks.leaders.items _ _ c.loop-state.blocks.members _ c.in_ok-block.block c.loop-state.invariant
    (subst (λ n. IsLabelPut c.loop-state.numbers (label_at c.args.labels.now c.loop-state.state) n c.label_block.new.numbers c.in_ok-block.block) next c.in_ok-block.ensures) c.in_ok-add.ensures.leading c.in_ok-add.ensures.classes c.in_ok-add.ensures.lists c.in_ok-add.ensures.listed

pub returns-clause-blocks : goal.returns-clause-blocks
returns-clause-blocks c =
    let end : c.loop-state.state ≡ length c.args.labels.now = omega (arith, c.loop-state-test.false, c.loop-state.auto.state-end) in
    AreBlocks-labelled c.args.labels.now _ _ _ _ (subst (λ n. AreLabelled c.args.labels.now n c.loop-state.numbers c.loop-state.blocks.classes.items c.loop-state.blocks.leaders.items c.loop-state.blocks.members) end c.loop-state.invariant)

pub returns-clause-same : goal.returns-clause-same
returns-clause-same c =
    let end : c.loop-state.state ≡ length c.args.labels.now = omega (arith, c.loop-state-test.false, c.loop-state.auto.state-end) in
    same_blocks c.args.labels.now _ _ _ _ (subst (λ n. AreLabelled c.args.labels.now n c.loop-state.numbers c.loop-state.blocks.classes.items c.loop-state.blocks.leaders.items c.loop-state.blocks.members) end c.loop-state.invariant)
