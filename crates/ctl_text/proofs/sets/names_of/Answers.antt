use Rattle.std.proofs.Common.{Bor, List, ℕ, []}
use Rattle.pair_structure.specs.Name.{IsName}
use Rattle.ctl_text.proofs.MemberLists.{all_at}
use Rattle.ctl_text.proofs.sets.names_of.Goals as goal

pub name_of-requires : goal.name_of-requires
name_of-requires c = all_at {X = Bor (List ℕ)} IsName (λ w. w.now) c.args.words.now c.loop-word.word-index (record { ref_ptr = (0, 0); now = [] }) c.requires c.loop-word-test.true
