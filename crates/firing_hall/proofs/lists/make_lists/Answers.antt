use Rattle.std.proofs.Common.{◌+◌, ◌∷◌, [], length, length-append, arith, sym, ap, subst}
use Rattle.std.specs.Prelude.{All}
use Rattle.std.proofs.lemmas.List.Elements.{All-push}
use Rattle.firing_hall.specs.inside.Dealing.{HasRoom}
use Rattle.firing_hall.proofs.lists.make_lists.Goals as goal

pub loop-preserved : goal.loop-preserved
loop-preserved c =
    let old = c.loop.lists.items in
    let list = c.in_ok-list.list in
    let new = c.in_ok-list.ensures in
    let push = c.push_reserved.ensures in
    let i = c.loop.invariant in (
      subst (All (HasRoom c.args.room)) (sym push.items) (All-push (HasRoom c.args.room) old list i.0 (new.items, omega (arith, new.capacity))),
      omega (arith, ap length push.items, length-append old (list ∷ []), i.1),
      omega (arith, push.capacity, i.2),
    )
