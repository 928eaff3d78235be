use Rattle.interconnection.proofs.Growing.{IsGrown-from_insert}
use Rattle.interconnection.proofs.neighbourhood.Neighbourhood.add.Goals as goal

pub returns : goal.returns
returns c =
    let grown =
    IsGrown-from_insert c.self.inside.beside.items c.self.inside.plan.items c.args.neighbour c.place_beside-place.result
    (rw (← c.self.view_is) at c.requires.ordered)
    (rw (← c.self.view_is) at c.requires.fresh)
    (rw c.deref.ensures.value at c.place_beside-place.ensures.within)
    (rw c.deref.ensures.value at c.place_beside-place.ensures.point)
    in
    rw (c.in_ok-insert.ensures.items, c.in_ok-push.ensures.items, ← c.self.view_is) grown
