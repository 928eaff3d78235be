use Rattle.std.proofs.Common.{◌≡◌, ◌++◌, take}
use Rattle.firing_journal.specs.Report.{lists_in}
use Rattle.firing_journal.specs.ReportText.{callers_text}
use Rattle.firing_journal.proofs.reporting.write_callers.Given as goal

abbrev pub invariant-loop-caller : goal.invariant-loop-caller
invariant-loop-caller l = l.into.items ≡ l.initial.into.items ++ callers_text 0 (lists_in (take l.caller l.callers))
