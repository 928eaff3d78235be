use Rattle.std.proofs.Common.{◌≡◌, ◌++◌, take}
use Rattle.std.specs.List.{flat_map}
use Rattle.firing_journal.specs.JournalText.{entry_text}
use Rattle.firing_journal.proofs.write.write_entries.Given as goal

abbrev pub invariant-loop-entry : goal.invariant-loop-entry
invariant-loop-entry l = l.into.items ≡ l.initial.into.items ++ flat_map entry_text (take l.entry-index l.entries)
