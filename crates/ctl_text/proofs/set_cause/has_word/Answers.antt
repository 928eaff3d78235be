use Rattle.std.proofs.Common.{Bor, List, ℕ}
use Rattle.ctl_text.proofs.MemberLists.{contains_map}
use Rattle.ctl_text.proofs.set_cause.has_word.Goals as goal

pub returns : goal.returns
returns c = contains_map {X = Bor (List ℕ)} (λ w. w.now) c.args.words.now c.args.word.now c.any_word.ensures
