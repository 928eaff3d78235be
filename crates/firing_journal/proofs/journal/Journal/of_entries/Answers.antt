use Rattle.std.proofs.Common.{All, subst}
use Rattle.firing_journal.specs.Said.{HasSmallNumbers}
use Rattle.firing_journal.proofs.journal.Journal.of_entries.Goals as goal

pub invariant_of-result : goal.invariant_of-result
invariant_of-result c = record {
  numbered = c.requires.numbered;
  small = subst (All HasSmallNumbers) c.as_slice.ensures.value c.know_small.ensures;
}
