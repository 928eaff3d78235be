use Rattle.std.proofs.Common.{◌≡◌, ◌<◌, arith, length, slice_index, subst, get_or}
use Rattle.std.proofs.Math.Decide.{dec_lt}
use Rattle.std.proofs.lemmas.List.{get_or_default}
use Rattle.pair_quotient.specs.inside.Naming.{IsNameOf}
use Rattle.pair_quotient.proofs.NamingLaws.{AreNames-empty, leader_named, IsNameOf-kept}
use Rattle.pair_quotient.proofs.naming.name_leaders.Goals as goal

pub loop-block-init : goal.loop-block-init
loop-block-init c = record { names = AreNames-empty _ _ _ _ _ c.new-names.ensures.empty; each = λ k lt. absurd (omega (arith, lt)) }

pub loop-block-preserved : goal.loop-block-preserved
loop-block-preserved c =
    let i = c.loop-block.block-index in
    let b = slice_index c.args.blocks.now c.loop-block.block-index in
    let lb : slice_index c.args.blocks.now c.loop-block.block-index < length c.args.leaders.now = c.requires.blocks c.loop-block.block-index 0 c.loop-block-test.true in
    let u = leader_named c.args.m.now c.requires.goes_on c.args.classes.now c.args.leaders.now c.requires.led c.loop-block.names c.in_ok-key.key b c.name_key.new.names c.in_ok-name_key.field-0 lb c.loop-block.invariant.names c.in_ok-key.ensures c.in_ok-name_key.ensures in
    record {
      names = u.0;
      each = λ k lt. elim (dec_lt k c.loop-block.block-index) [
        | yes l ↦ IsNameOf-kept c.args.m.now c.args.classes.now c.loop-block.names c.in_ok-key.key b c.name_key.new.names c.in_ok-name_key.field-0 c.in_ok-name_key.ensures _ _ (c.loop-block.invariant.each k l)
        | no g ↦ (let e : c.loop-block.block-index ≡ k = omega (arith, g, lt) in subst (λ j. IsNameOf c.args.m.now c.args.classes.now c.name_key.new.names (slice_index c.args.leaders.now (slice_index c.args.blocks.now j)) (slice_index c.args.blocks.now j)) e u.1)
      ];
    }

pub returns-clause-each : goal.returns-clause-each
returns-clause-each c = λ k d lt.
    let same : slice_index c.args.blocks.now k ≡ get_or c.args.blocks.now k d = get_or_default c.args.blocks.now k 0 d lt in
    subst (λ b. IsNameOf c.args.m.now c.args.classes.now c.loop-block.names (slice_index c.args.leaders.now b) b) same (c.loop-block.invariant.each k (omega (arith, lt, c.loop-block-test.false)))
