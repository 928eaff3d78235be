use Rattle.std.proofs.Common.{IsTrue, false}
use Rattle.pair_structure.proofs.StartRows.{row_at, rows_more, rest_more}
use Rattle.pair_structure.proofs.start_check.have_starts.Goals as goal

pub returns-in-None : goal.returns-in-None
returns-in-None c =
    let none = rw (c.starts-starts.ensures.starts, c.starts-start-items.ensures.starts) at c.in-None.ensures in
    let within = rw c.starts-start-items.ensures.starts at c.loop-start-test.true in
    (λ yes. let no : IsTrue false = yes in cc, λ have. absurd (none (row_at _ _ _ _ _ c.loop-start.invariant.0 have within)))

pub loop-start-preserved : goal.loop-start-preserved
loop-start-preserved c =
    let row = rw (c.starts-starts.ensures.starts, c.starts-start-items.ensures.starts) at c.in-Some.ensures in
    let (rest, rows) = c.loop-start.invariant in
    (rest_more c.args.b.now.starts c.args.states.now c.loop-start.rest.now c.in-Some.after.now c.loop-start.start-index rest row.1, rows_more _ _ _ _ _ rest rows row.0)
