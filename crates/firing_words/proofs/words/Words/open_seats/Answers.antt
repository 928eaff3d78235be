use Rattle.std.proofs.Common.{sym, subst}
use Rattle.firing_words.specs.declared.rule.Setting.{Setting}
use Rattle.firing_words.specs.Rule.{AreOpening}
use Rattle.firing_words.proofs.Seating.{opens}
use Rattle.firing_words.proofs.words.Words.open_seats.Goals as goal

pub of_words-requires : goal.of_words-requires
of_words-requires c =
    let setting : Setting = record { system = c.args.system; callers = c.args.callers; room = c.args.room; few = c.requires.callers.1; small = c.requires.room } in
    opens setting c.as_slice.result.now c.counts-processes.ensures.lawful (subst (AreOpening c.args.system) (sym c.as_slice.ensures.value) c.in-Ok-opening_words.ensures)
