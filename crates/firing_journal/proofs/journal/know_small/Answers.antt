use Rattle.std.proofs.Common.{All, subst}
use Rattle.std.proofs.lemmas.List.{take_all}
use Rattle.firing_journal.specs.declared.journal.Entry.{Entry}
use Rattle.firing_journal.specs.Replay.{no_wish}
use Rattle.firing_journal.specs.Said.{HasSmallNumbers}
use Rattle.firing_journal.proofs.Numbered.{small_more}
use Rattle.firing_journal.proofs.journal.know_small.Goals as goal

abbrev no_entry : Entry
no_entry = record { number = 0; caller = 0; wish = no_wish }

pub loop-entry-preserved : goal.loop-entry-preserved
loop-entry-preserved c = small_more c.args.entries.now c.loop-entry.entry-index no_entry c.loop-entry-test.true c.loop-entry.invariant (subst HasSmallNumbers c.entry_of.ensures.entry c.entry_of.ensures.small)

pub returns : goal.returns
returns c = subst (All HasSmallNumbers) (take_all c.loop-entry.entry-index c.args.entries.now c.loop-entry-test.false) c.loop-entry.invariant
