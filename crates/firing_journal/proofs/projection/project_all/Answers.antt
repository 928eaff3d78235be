use Rattle.std.proofs.Common.{◌≡◌, ◌++◌, sym}
use Rattle.std.proofs.lemmas.List.{append-nil}
use Rattle.std.specs.Prelude.{option_to_list}
use Rattle.firing_journal.specs.declared.journal.Entry.{Entry}
use Rattle.firing_journal.specs.Replay.{no_wish}
use Rattle.firing_journal.proofs.Projections.{entry_projected, moves_there}
use Rattle.firing_journal.proofs.projection.project_all.Goals as goal
use Rattle.firing_journal.proofs.projection.project_all.Goals.{in-Some+in_ok-push, in_default}

abbrev no_entry : Entry
no_entry = record { number = 0; caller = 0; wish = no_wish }

pub step-requires-clause-fits : goal.step-requires-clause-fits
step-requires-clause-fits c = (moves_there c.args.system.now c.args.entries.now c.loop-entry.entry-index c.loop-entry.whole no_entry c.loop-entry-test.true c.requires.run c.loop-entry.invariant.whole).fits

pub loop-entry-preserved : goal.loop-entry-preserved
loop-entry-preserved c =
    let all_is : c.match-move_on.moves.items ≡ c.loop-entry.moves.items ++ option_to_list c.move_on.result = elim c.match-move_on.branch [ in-Some+in_ok-push w ↦ rw (w.moves-is, w.in-Some.is) w.in_ok-push.ensures.items | in_default w ↦ rw (w.moves-is, w.in_default.is) (sym (append-nil c.loop-entry.moves.items)) ] in
    entry_projected c.args.system.now c.args.entries.now c.args.edge c.loop-entry.entry-index c.loop-entry.whole c.step.new.w c.step.result c.loop-entry.moves.items (option_to_list c.move_on.result) c.match-move_on.moves.items no_entry c.loop-entry-test.true c.requires.run c.loop-entry.invariant c.step.ensures.answer c.step.ensures.proper c.move_on.ensures all_is
