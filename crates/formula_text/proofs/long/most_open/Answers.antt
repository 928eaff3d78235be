use Rattle.std.proofs.Common.{ℕ, List, [], Bor, get_or}
use Rattle.formula_text.proofs.LongLaws.{most_next, most_step}
use Rattle.formula_text.proofs.long.most_open.Goals as goal

pub loop-token-preserved : goal.loop-token-preserved
loop-token-preserved c =
    most_step _ _ _ _ _ _ _ (get_or c.args.tokens.now c.loop-token.token-index (record { ref_ptr = (0, 0); now = [] })).now _ c.loop-token.invariant.0 c.loop-token.invariant.1 c.max-most.ensures c.open_after-opened.ensures
    (most_next {X = Bor (List ℕ)} (λ t. t.now) c.args.tokens.now c.loop-token.token-index (record { ref_ptr = (0, 0); now = [] }) c.loop-token.opened c.loop-token-test.true)
