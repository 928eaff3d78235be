use Rattle.std.proofs.Common.{◌-◌, length}
use Rattle.deletion_rules.specs.inside.Cursors.{HasPassed}
use Rattle.deletion_rules.proofs.cursors.is_through.Given as goal

abbrev pub invariant-loop-cursor : goal.invariant-loop-cursor
invariant-loop-cursor l = HasPassed l.items l.flags l.value l.cursor

abbrev pub decreases-loop-cursor : goal.decreases-loop-cursor
decreases-loop-cursor l = length l.items - l.cursor
