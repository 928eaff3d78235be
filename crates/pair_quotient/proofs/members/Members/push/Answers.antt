use Rattle.pair_structure.proofs.ListOfLists.{grown_here, same_elsewhere}
use Rattle.pair_quotient.proofs.members.Members.push.Goals as goal

pub returns-clause-here : goal.returns-clause-here
returns-clause-here c =
    let here = grown_here (λ list. list.items) c.self.inside.lists.items c.args.block c.index_mut.result.now c.push.new.self c.args.state (rw c.self.view_is c.requires) c.index_mut.ensures.value c.in_ok-push.ensures.items in
    rw c.self.view_is at here

pub returns-clause-elsewhere : goal.returns-clause-elsewhere
returns-clause-elsewhere c = λ q differ.
    let elsewhere = same_elsewhere (λ list. list.items) c.self.inside.lists.items c.args.block q c.push.new.self differ in
    rw c.self.view_is at elsewhere
