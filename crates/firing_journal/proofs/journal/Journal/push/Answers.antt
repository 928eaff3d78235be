use Rattle.std.proofs.Common.{◌≡◌, ◌∙◌, ap, arith, length}
use Rattle.std.proofs.lemmas.Grind.{common_steps}
use Rattle.firing_journal.specs.declared.journal.Entry.{Entry}
use Rattle.firing_journal.proofs.Numbered.{journal_push}
use Rattle.firing_journal.proofs.journal.Journal.push.Goals as goal

pub invariant_of-self-2 : goal.invariant_of-self-2
invariant_of-self-2 c =
    let number : c.len-number.result ≡ length c.self.inside.entries.items = grind (arith, common_steps) in
    journal_push c.self.inside.entries.items c.push.new.self.items c.entry_of-entry.result c.self.invariant (ap (λ (e : Entry). e.number) c.entry_of-entry.ensures.entry ∙ number) c.in_ok-push.ensures.items c.entry_of-entry.ensures.small
