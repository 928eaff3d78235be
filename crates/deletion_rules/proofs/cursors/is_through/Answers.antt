use Rattle.std.proofs.Common.{slice_index_or}
use Rattle.std.proofs.lemmas.Grind.{get_or_default_zero}
use Rattle.deletion_rules.proofs.Standing.{through_before, through_end}
use Rattle.deletion_rules.proofs.cursors.is_through.Goals as goal
use Rattle.deletion_rules.proofs.cursors.is_through.Goals.{then-loop-cursor-test+else-flags-items, else-loop-cursor-test}

pub bounds-flags-items : goal.bounds-flags-items
bounds-flags-items c = c.requires.items (slice_index_or c.args.items.now c.loop-cursor.cursor 0) (c.loop-cursor.cursor, c.loop-cursor-test.true, get_or_default_zero c.args.items.now c.loop-cursor.cursor (slice_index_or c.args.items.now c.loop-cursor.cursor 0) c.loop-cursor-test.true)

pub returns-clause-through : goal.returns-clause-through
returns-clause-through c = elim c.loop-cursor-test.branch [ then-loop-cursor-test+else-flags-items w ↦ through_before c.args.items.now c.args.flags.now c.args.value c.loop-cursor.cursor w.loop-cursor-test.true w.if-flags-items.false | else-loop-cursor-test w ↦ through_end c.args.items.now c.args.flags.now c.args.value c.loop-cursor.cursor c.loop-cursor.invariant w.loop-cursor-test.false ]
