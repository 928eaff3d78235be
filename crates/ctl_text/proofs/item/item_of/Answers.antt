use Rattle.std.proofs.Common.{Bor, List, ℕ, ◌∙◌}
use Rattle.ctl_text.proofs.MemberLists.{few_short}
use Rattle.ctl_text.proofs.item.item_of.Goals as goal

pub returns-in_default : goal.returns-in_default
returns-in_default c = c.few.ensures ∙ few_short {X = Bor (List ℕ)} (λ w. w.now) c.args.words.now c.in_default.len_below
