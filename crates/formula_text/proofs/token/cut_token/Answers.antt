use Rattle.strict_text.proofs.PieceLaws.{piece_cut_at}
use Rattle.formula_text.specs.Token.{are_joined}
use Rattle.formula_text.proofs.TokenLaws.{tokens_part}
use Rattle.formula_text.proofs.token.cut_token.Goals as goal

pub returns-clause-cut : goal.returns-clause-cut
returns-clause-cut c =
    let e = piece_cut_at are_joined tokens_part c.args.bytes.now c.token_end.result c.token_end.ensures.some c.token_end.ensures.within c.requires.begins c.token_end.ensures.joined c.token_end.ensures.ends in cc
