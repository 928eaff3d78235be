use Rattle.std.proofs.Common.{IsTrue, false}
use Rattle.firing_journal.proofs.Words.{says_nothing}
use Rattle.firing_journal.proofs.item.said_by.Goals as goal

pub returns-then-not-begins_entry-clause-none : goal.returns-then-not-begins_entry-clause-none
returns-then-not-begins_entry-clause-none c = says_nothing c.args.bytes.now c.cut_word.result.0.now _ c.cut_word.ensures.cut
    (λ is. let never : IsTrue false = rw c.if-is_done.false at (c.is_done.ensures.1 is) in cc)
    (λ is. let never : IsTrue false = rw c.if-is_head.false at (c.is_head.ensures.1 is) in cc)
    (λ is. let never : IsTrue false = rw c.if-not-begins_entry.true at (c.begins_entry.ensures.1 is) in cc)
