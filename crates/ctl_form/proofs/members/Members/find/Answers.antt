use Rattle.std.proofs.Common.{◌≡◌, ◌<◌, List, length, subst, sym}
use Rattle.ctl_form.specs.Members.{part_at}
use Rattle.ctl_form.specs.declared.part.Part.{Part}
use Rattle.ctl_form.proofs.members.Members.find.Goals as goal

pub returns-in-Some-clause-found : goal.returns-in-Some-clause-found
returns-in-Some-clause-found c =
    let at = sym c.in-Some.ensures.value in
    let n = c.in-Some.n.now in
    let index = c.self.invariant.index in
    subst (λ (l : List Part). (n < length l) × (part_at l n ≡ c.args.part)) c.self.view_is (index.within c.args.part n at, index.only c.args.part n at)
