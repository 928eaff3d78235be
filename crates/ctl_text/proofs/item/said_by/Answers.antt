use Rattle.std.proofs.Common.{sym, refl}
use Rattle.ctl_text.proofs.ItemLaws.{item_takes}
use Rattle.ctl_text.proofs.item.said_by.Goals as goal

pub returns-then-is_spelled-clause-some : goal.returns-then-is_spelled-clause-some
returns-then-is_spelled-clause-some c = record { words_are = item_takes _ _ (sym c.in-Some.ensures); spelled = c.if-is_spelled.ensures.0 refl }
