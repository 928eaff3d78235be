use Rattle.std.proofs.Common.{sym}
use Rattle.strict_text.proofs.PieceLaws.{pieces_from, no_pieces, piece_begins}
use Rattle.strict_text.proofs.loose.first_piece.Goals as goal

pub returns-in-Some-clause-same : goal.returns-in-Some-clause-same
returns-in-Some-clause-same c = λ joined. let e = pieces_from joined c.args.bytes.now c.in-Some.start (sym c.in-Some.ensures.start) in let f = c.split_at.ensures.back in rw f e

pub returns-in-Some-clause-begins : goal.returns-in-Some-clause-begins
returns-in-Some-clause-begins c = let e = piece_begins c.args.bytes.now c.in-Some.start (sym c.in-Some.ensures.start) in let f = c.split_at.ensures.back in rw f e

pub returns-in-None-clause-none : goal.returns-in-None-clause-none
returns-in-None-clause-none c = λ joined. no_pieces joined c.args.bytes.now (sym c.in-None.ensures.start)
