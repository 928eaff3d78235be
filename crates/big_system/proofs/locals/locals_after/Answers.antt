use Rattle.std.proofs.Common.{◌+◌, ◌∙◌, arith, get_or}
use Rattle.std.proofs.lemmas.List.{length-set}
use Rattle.firing_journal.specs.declared.journal.Entry.{Entry}
use Rattle.big_system.proofs.Ends.{one_more}
use Rattle.big_system.proofs.locals.locals_after.Goals as goal

abbrev no_entry : Entry
no_entry = record { number = 0; caller = 0; wish = record { process = 0; arc = 0; pick = 0 } }

pub loop-entry-preserved : goal.loop-entry-preserved
loop-entry-preserved c = record {
  locals = rw c.goal_of.ensures (one_more c.in_ok-locals.locals.items c.loop-entry.locals.items c.args.entries.now c.loop-entry.entry-index (c.loop-entry.entry-index + 1) no_entry c.loop-entry-test.true (omega arith) c.loop-entry.invariant.locals);
  size = length-set c.loop-entry.locals.items (get_or c.args.entries.now c.loop-entry.entry-index no_entry).wish.process c.goal_of.result ∙ c.loop-entry.invariant.size;
}
