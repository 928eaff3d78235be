use Rattle.std.proofs.Common.{◌≡◌, ◌++◌, take}
use Rattle.std.specs.List.{flat_map}
use Rattle.firing_journal.specs.ReportText.{asked_text}
use Rattle.firing_journal.proofs.reporting.write_list.Given as goal

abbrev pub invariant-loop-asked : goal.invariant-loop-asked
invariant-loop-asked l = l.into.items ≡ l.initial.into.items ++ flat_map asked_text (take l.asked-index l.list)
