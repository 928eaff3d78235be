use Rattle.std.proofs.Common.{ℕ, List, [], Bor, refl}
use Rattle.formula_text.proofs.LongLaws.{weight_over, weight_step}
use Rattle.formula_text.proofs.SetLaws.{weight_next}
use Rattle.formula_text.proofs.long.are_many.Goals as goal

pub returns-then-counted-gt-MOST : goal.returns-then-counted-gt-MOST
returns-then-counted-gt-MOST c =
    let next = weight_next {X = Bor (List ℕ)} c.args.a.now c.args.b.now (λ t. t.now) c.args.tokens.now c.loop-token.token-index (record { ref_ptr = (0, 0); now = [] }) c.loop-token-test.true in
    let over = weight_over _ _ _ _ _ _ c.loop-token.invariant.1 c.weight_of-counted.ensures.weight next c.if-counted-gt-MOST.true in (λ t. over, λ many. refl)

pub loop-token-preserved : goal.loop-token-preserved
loop-token-preserved c =
    let next = weight_next {X = Bor (List ℕ)} c.args.a.now c.args.b.now (λ t. t.now) c.args.tokens.now c.loop-token.token-index (record { ref_ptr = (0, 0); now = [] }) c.loop-token-test.true in
    weight_step _ _ _ _ _ _ c.loop-token.invariant.1 c.weight_of-counted.ensures.weight next c.if-counted-gt-MOST.false
