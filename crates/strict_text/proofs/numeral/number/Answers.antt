use Rattle.std.proofs.Common.{sym, ◌∙◌}
use Rattle.strict_text.proofs.NumberLaws.{not_plain}
use Rattle.strict_text.proofs.numeral.number.Goals as goal

pub returns-then-not-begins_plainly-clause-none : goal.returns-then-not-begins_plainly-clause-none
returns-then-not-begins_plainly-clause-none c = not_plain c.args.word.now (sym c.begins_plainly.ensures ∙ c.if-not-begins_plainly.true)
