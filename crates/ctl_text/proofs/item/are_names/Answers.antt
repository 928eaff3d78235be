use Rattle.std.proofs.Common.{Bor, List, ℕ}
use Rattle.pair_structure.specs.Name.{IsName}
use Rattle.ctl_text.proofs.MemberLists.{all_map}
use Rattle.ctl_text.proofs.item.are_names.Goals as goal

pub returns : goal.returns
returns c = all_map {X = Bor (List ℕ)} IsName (λ w. w.now) c.args.words.now c.all_names.ensures
