use Rattle.std.proofs.Common.{sym}
use Rattle.strict_text.proofs.WordLaws.{cut_at, cut_none}
use Rattle.strict_text.proofs.word.cut_word.Goals as goal

pub returns-in-Some-clause-cut : goal.returns-in-Some-clause-cut
returns-in-Some-clause-cut c = let e = cut_at c.args.line.now c.in-Some.end (sym c.in-Some.ensures.end) in cc

pub returns-in-None-clause-cut : goal.returns-in-None-clause-cut
returns-in-None-clause-cut c = cut_none c.args.line.now (sym c.in-None.ensures.end)
