use Rattle.std.proofs.Common.{◌+◌, ◌∷◌, [], length, length-append, map, arith, ◌∙◌, ap}
use mathlib.Core.List.{map-append}
use Rattle.firing_hall.specs.inside.Taking.{total}
use Rattle.firing_hall.proofs.Counting.{total-push}
use Rattle.firing_hall.proofs.blank.no_lists.Goals as goal

pub loop-preserved : goal.loop-preserved
loop-preserved c =
    let old = c.loop.lists.items in
    let push = c.push_reserved.ensures in
    let i = c.loop.invariant in
    let more = ap (λ ls. total (map (λ v. v.items) ls)) push.items ∙ (ap total (map-append (λ v. v.items) old (c.new.result ∷ [])) ∙ (total-push (map (λ v. v.items) old) c.new.result.items ∙ ap (λ l. total (map (λ v. v.items) old) + length l) c.new.ensures.items)) in (
      omega (arith, ap length push.items, length-append old (c.new.result ∷ []), i.0),
      omega (arith, push.capacity, i.1),
      omega (arith, more, i.2),
    )
