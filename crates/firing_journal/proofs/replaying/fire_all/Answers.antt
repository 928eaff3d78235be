use Rattle.std.proofs.Common.{ℕ, ◌≤◌, get_or, arith, subst, sym, List}
use Rattle.firing_journal.specs.declared.journal.Entry.{Entry}
use Rattle.firing_journal.specs.Journal.{wishes_of}
use Rattle.firing_journal.specs.Replay.{no_wish}
use Rattle.firing_journal.proofs.Replays.{count_fits, entry_fired, entry_stuck, fired_start}
use Rattle.firing_journal.proofs.replaying.fire_all.Goals as goal

abbrev no_entry : Entry
no_entry = record { number = 0; caller = 0; wish = no_wish }

pub loop-at-init : goal.loop-at-init
loop-at-init c = fired_start c.args.system.now (wishes_of c.args.entries.now) c.args.whole.now c.args.moves.now c.requires.start c.requires.proper c.requires.moves

pub overflow_add-moves : goal.overflow_add-moves
overflow_add-moves c =
    let sys = c.args.system.now in
    let k = (get_or c.args.entries.now c.loop-at.at no_entry).wish.process in
    let fits = c.requires.fits c.loop-at.at no_entry c.loop-at-test.true in
    let few : get_or c.loop-at.moves k 0 ≤ c.loop-at.at = subst (λ (m : List ℕ). get_or m k 0 ≤ c.loop-at.at) (sym c.loop-at.invariant.each) (count_fits sys (wishes_of c.args.entries.now) c.loop-at.at k fits.wish.process_in) in
    omega (arith, few)

pub loop-at-preserved : goal.loop-at-preserved
loop-at-preserved c = entry_fired c.args.system.now c.args.entries.now c.loop-at.at c.loop-at.whole c.step.new.w c.loop-at.moves no_entry c.loop-at-test.true c.loop-at.invariant c.in-Moved.ensures.answer c.step.ensures.proper

pub returns-in_default : goal.returns-in_default
returns-in_default c = record {
  run = tt;
  stuck = entry_stuck c.args.system.now c.args.entries.now c.loop-at.at c.loop-at.whole c.step.new.w c.loop-at.moves no_entry c.step.result c.loop-at-test.true c.loop-at.invariant c.in_default.not-Moved c.step.ensures.answer;
}
