use Rattle.waitfor_check.proofs.Accepting.{accepted_from}
use Rattle.waitfor_check.proofs.verdict.check_stars.Goals as goal

pub returns : goal.returns
returns c =
    let starts = rw c.in_default.is at c.in_ok-star.ensures in
    let closed = rw c.in_default-2.is at c.in_ok-at.ensures in
    let calm = rw c.in_default-3.is at c.in_ok-at-2.ensures in
    accepted_from c.args.system.now c.args.stars.now c.requires.fits ((c.requires.shapes, starts), closed) calm
