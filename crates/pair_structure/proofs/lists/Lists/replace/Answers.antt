use Rattle.std.proofs.Common.{ap, ◌∙◌}
use Rattle.pair_structure.proofs.ListOfLists.{put_here, same_elsewhere}
use Rattle.pair_structure.proofs.lists.Lists.replace.Goals as goal

pub returns-clause-here : goal.returns-clause-here
returns-clause-here g c =
    let put = put_here (λ list. list.items) c.self.inside.lists.items c.args.number c.replace.new.dest (rw c.self.view_is c.requires) in
    put ∙ ap (λ list. list.items) c.replace.ensures.after

pub returns-clause-elsewhere : goal.returns-clause-elsewhere
returns-clause-elsewhere g c = λ k differ.
    let elsewhere = same_elsewhere (λ list. list.items) c.self.inside.lists.items c.args.number k c.replace.new.dest differ in
    rw c.self.view_is at elsewhere
