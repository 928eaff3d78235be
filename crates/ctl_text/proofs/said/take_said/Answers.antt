use Rattle.std.proofs.lemmas.Result.{err_from_is_err_and}
use Rattle.ctl_text.specs.inside.View.{state_of}
use Rattle.ctl_text.proofs.SaidTaken.{head_taken, done_taken}
use Rattle.ctl_text.proofs.said.take_said.Goals as goal

pub returns-in_err-reader-in-Set-clause-refused : goal.returns-in_err-reader-in-Set-clause-refused
returns-in_err-reader-in-Set-clause-refused c =
    let p = err_from_is_err_and c.from_residual-in_err-reader-in-Set.result c.from_residual-in_err-reader-in-Set.ensures.1 in
    rw (p.1, p.2) (rw c.in-Set.is c.in_err-reader-in-Set.ensures.refused)

pub returns-in_err-reader-in-Kind-clause-refused : goal.returns-in_err-reader-in-Kind-clause-refused
returns-in_err-reader-in-Kind-clause-refused c =
    let p = err_from_is_err_and c.from_residual-in_err-reader-in-Kind.result c.from_residual-in_err-reader-in-Kind.ensures.1 in
    rw (p.1, p.2) (rw c.in-Kind.is c.in_err-reader-in-Kind.ensures.refused)

pub returns-in_err-reader-in-Process-clause-refused : goal.returns-in_err-reader-in-Process-clause-refused
returns-in_err-reader-in-Process-clause-refused c =
    let p = err_from_is_err_and c.from_residual-in_err-reader-in-Process.result c.from_residual-in_err-reader-in-Process.ensures.1 in
    rw (p.1, p.2) (rw c.in-Process.is c.in_err-reader-in-Process.ensures.refused)

pub returns-in_err-reader-in-Edge-clause-refused : goal.returns-in_err-reader-in-Edge-clause-refused
returns-in_err-reader-in-Edge-clause-refused c =
    let p = err_from_is_err_and c.from_residual-in_err-reader-in-Edge.result c.from_residual-in_err-reader-in-Edge.ensures.1 in
    rw (p.1, p.2) (rw c.in-Edge.is c.in_err-reader-in-Edge.ensures.refused)

pub returns-in-Head-clause-taken : goal.returns-in-Head-clause-taken
returns-in-Head-clause-taken c = rw c.in-Head.is (head_taken (state_of c.args.reader) (state_of c.new.result) c.in-Head.format c.new.ensures)

pub returns-in-Done-clause-taken : goal.returns-in-Done-clause-taken
returns-in-Done-clause-taken c = rw c.in-Done.is (done_taken (state_of c.args.reader) (state_of c.opened.result) c.opened.ensures c.requires.sound)
