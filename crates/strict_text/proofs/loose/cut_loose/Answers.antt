use Rattle.std.proofs.Common.{sym}
use Rattle.strict_text.proofs.PieceLaws.{word_cut, last_word}
use Rattle.strict_text.proofs.loose.cut_loose.Goals as goal

pub returns-in-Some-clause-cut : goal.returns-in-Some-clause-cut
returns-in-Some-clause-cut c = let e = word_cut c.args.bytes.now c.in-Some.end c.requires.begins (sym c.in-Some.ensures.end) in let f = e.1 in cc

pub returns-in-None-clause-cut : goal.returns-in-None-clause-cut
returns-in-None-clause-cut c = let e = last_word c.args.bytes.now c.requires.some c.requires.begins (sym c.in-None.ensures.end) in cc
