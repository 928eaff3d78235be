use Rattle.std.proofs.Common.{ℕ, ◌∙◌, ap, length, subst, sym}
use Rattle.strict_text.specs.View.{line_of}
use Rattle.firing_journal.specs.declared.item.Item.{Item}
use Rattle.firing_journal.specs.Said.{Says, entry_line}
use Rattle.firing_journal.specs.inside.View.{said, wish_of_numbers}
use Rattle.firing_journal.proofs.Judged.{entry_taken, misplaced_is_bad_line}
use Rattle.firing_journal.proofs.judge.judge_item.Goals as goal

pub returns-then-number-entries-clause-refused : goal.returns-then-number-entries-clause-refused
returns-then-number-entries-clause-refused c =
    let says = subst (λ (item : Item). Says (line_of c.args.line) (said item)) c.in-Firing.is c.requires.says in
    misplaced_is_bad_line c.args.system.now c.args.journal.now (line_of c.args.line) (entry_line (record { number = c.in-Firing.number; caller = c.in-Firing.caller; wish = wish_of_numbers c.in-Firing.process c.in-Firing.arc c.in-Firing.pick })) c.requires.strict says (λ is. c.if-number-entries.true (is ∙ sym (ap {B = ℕ} length c.entries.ensures.entries)))

pub returns-in-Some-clause-taken : goal.returns-in-Some-clause-taken
returns-in-Some-clause-taken c =
    let says = subst (λ (item : Item). Says (line_of c.args.line) (said item)) c.in-Firing.is c.requires.says in
    let some = c.in-Some.ensures.some in
    entry_taken c.args.system.now c.args.journal.now (line_of c.args.line) c.in-Firing.number c.in-Firing.caller c.in-Firing.process c.in-Firing.arc c.in-Firing.pick c.in-Some.next c.requires.strict says (c.if-number-entries.false ∙ ap {B = ℕ} length c.entries.ensures.entries) some.0 some.1 some.2
