use Rattle.std.proofs.Common.{◌+◌, ◌∷◌, [], length, length-append, arith, sym, ap, subst}
use Rattle.std.specs.Prelude.{All}
use Rattle.std.proofs.lemmas.List.Elements.{All-push}
use Rattle.firing_words.specs.inside.Dealing.{IsSpaceFor}
use Rattle.firing_words.proofs.spaces.make_spaces.Goals as goal

pub loop-preserved : goal.loop-preserved
loop-preserved c =
    let old = c.loop.spaces.items in
    let part = c.in_ok-space.space in
    let push = c.push_reserved.ensures in
    let i = c.loop.invariant in (
      subst (All (IsSpaceFor c.args.system.now (c.args.most + 1))) (sym push.items) (All-push (IsSpaceFor c.args.system.now (c.args.most + 1)) old part i.0 c.in_ok-space.ensures),
      omega (arith, ap length push.items, length-append old (part ∷ []), i.1),
      omega (arith, push.capacity, i.2),
    )
