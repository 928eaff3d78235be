use Rattle.std.proofs.Common.{ℕ, List, [], Bor}
use Rattle.formula_text.proofs.TokenLaws.{tokens_more, words_step}
use Rattle.formula_text.proofs.token.tokens_of.Goals as goal

pub loop-word-preserved : goal.loop-word-preserved
loop-word-preserved c = words_step _ _ _ _ _ _ c.loop-word.invariant c.in_ok-push_tokens.ensures
    (tokens_more {X = Bor (List ℕ)} (λ t. t.now) c.args.words.now c.loop-word.word-index (record { ref_ptr = (0, 0); now = [] }) c.loop-word-test.true)
