use Rattle.std.proofs.Common.{ℕ, ◌≡◌, List, length, arith, ap, sym, ◌∙◌, subst}
use Rattle.std.proofs.lemmas.List.{with_items_is}
use Rattle.waitfor_check.specs.inside.Walk.{EachDiffer}
use Rattle.waitfor_check.proofs.Rows.{reached_by_differ}
use Rattle.waitfor_check.proofs.centre.walk_arc.Goals as goal

pub walk_all-walked-requires-clause-differ : goal.walk_all-walked-requires-clause-differ
walk_all-walked-requires-clause-differ c =
    let size : length c.put_reached.new.lists ≡ c.args.room.now.lists.len = omega (arith, c.put_reached.auto.lists, c.deref_mut.ensures.len) in
    let lists = c.deref.ensures.value ∙ with_items_is c.args.room.now.lists c.put_reached.new.lists size ∙ c.in_ok-put_reached.ensures in
    subst (λ (lists : List (List ℕ)). EachDiffer lists) (sym lists) (reached_by_differ c.args.system.now c.args.star.now.shape c.args.states.now c.args.arc c.network-network.ensures.system c.requires.kinds)
