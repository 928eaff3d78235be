use Rattle.std.proofs.Common.{◌≡◌, length, take}
use Rattle.firing_journal.specs.Journal.{wishes_of}
use Rattle.big_system.specs.inside.Locals.{locals_after}
use Rattle.big_system.proofs.locals.locals_after.Given as goal

abbrev pub invariant-loop-entry : goal.invariant-loop-entry
invariant-loop-entry l = record { locals : l.locals.items ≡ locals_after l.initial.locals.items (wishes_of (take l.entry-index l.entries)); size : length l.locals.items ≡ l.count }
