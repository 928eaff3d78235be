use Rattle.std.proofs.Common.{sym, ◌∙◌}
use Rattle.formula_text.proofs.TokenLaws.{joined_more}
use Rattle.formula_text.proofs.token.token_end.Goals as goal

pub loop-end-preserved : goal.loop-end-preserved
loop-end-preserved c = joined_more c.args.bytes.now c.loop-end.end c.loop-end.auto.end c.loop-end.invariant (sym c.are_joined.ensures ∙ c.if-not-are_joined.false)
