use Rattle.std.proofs.Common.{ℕ, arith, sym, subst}
use mathlib.Core.Option.{none}
use Rattle.atomic_table.specs.Table.{Allows, step}
use Rattle.firing_words.specs.declared.rule.Setting.{Setting}
use Rattle.firing_words.specs.inside.Plays.{stores}
use Rattle.firing_words.specs.Rule.{Kept}
use Rattle.firing_words.proofs.Cells.{word_within}
use Rattle.firing_words.proofs.Storing.{stores_allow}
use Rattle.firing_words.proofs.words.Words.store_seat.Goals as goal

pub store-requires : goal.store-requires
store-requires c =
    let self = c.args.self.now in
    let slots = self.table.shared.table_id.slots in
    let id = c.args.hand.now.id in
    let me = c.args.hand.now.me in
    let next = c.args.next in
    let r = c.requires in
    let word = c.word_of-word.ensures in (
      r.of.0,
      omega (arith, self.sized, word, word_within self.setting.system next.cell r.within),
      subst (λ (k : Setting). Allows (Kept k) slots id me c.word_of-word.result (λ _. c.pack-value.result) (λ _. stores (step slots c.word_of-word.result c.pack-value.result 0 none) me c.pack-value.result)) self.same
          (subst (λ (q : ℕ × ℕ). Allows (Kept self.setting) slots id me q.0 (λ _. q.1) (λ _. stores (step slots q.0 q.1 0 none) me q.1)) (λ i. (sym word i, sym c.pack-value.ensures i))
          (stores_allow self.setting slots id me next r.owed.0 r.owed.1)),
    )
