use Rattle.strict_text.proofs.NumberLaws.{parsed_is_decimal, unparsed_is_none, number_utf8}
use Rattle.strict_text.proofs.numeral.value_of.Goals as goal

pub returns-in-Ok-parse-clause-some : goal.returns-in-Ok-parse-clause-some
returns-in-Ok-parse-clause-some c = parsed_is_decimal _ _ _ _ c.in-Ok.ensures.cases.0 c.requires c.parse.ensures.value.0 c.in-Ok-parse.is

pub returns-in-Err-parse-clause-none : goal.returns-in-Err-parse-clause-none
returns-in-Err-parse-clause-none c = unparsed_is_none _ _ _ _ c.in-Ok.ensures.cases.0 c.parse.ensures.value.0 c.in-Err-parse.is

pub returns-in-Err-clause-none : goal.returns-in-Err-clause-none
returns-in-Err-clause-none c = λ n small is. c.in-Err.ensures.cases.0 (number_utf8 c.args.word.now n small is)
