use Rattle.std.proofs.Common.{Result, Ok, Err, OnErr, rules}
use Rattle.pair_structure.proofs.ListOfLists.{grown_here, same_elsewhere, same_replaced}
use Rattle.pair_structure.proofs.lists.Lists.push.Goals as goal

on_err : {T E P : Type 0} (r : Result T E) → P → OnErr r P
on_err (Ok x) p = search rules
on_err (Err e) p = p

pub returns-clause-here : goal.returns-clause-here
returns-clause-here g c =
    let here = grown_here (λ list. list.items) c.self.inside.lists.items c.args.number c.index_mut.result.now c.push.new.self c.args.item (rw c.self.view_is c.in_ok-reach.ensures.within) c.index_mut.ensures.value c.in_ok-push.ensures.items in
    rw (c.self.view_is, c.reach.ensures.same c.args.number) at here

pub returns-clause-elsewhere : goal.returns-clause-elsewhere
returns-clause-elsewhere g c = λ k differ.
    let elsewhere = same_elsewhere (λ list. list.items) c.self.inside.lists.items c.args.number k c.push.new.self differ in
    rw (c.self.view_is, c.reach.ensures.same k) at elsewhere

pub returns-in_err-push-clause-elsewhere : goal.returns-in_err-push-clause-elsewhere
returns-in_err-push-clause-elsewhere g c = λ k differ.
    let elsewhere = same_elsewhere (λ list. list.items) c.self.inside.lists.items c.args.number k c.push.new.self differ in
    rw (c.self.view_is, c.reach.ensures.same k) at elsewhere

pub returns-in_err-push-clause-kept : goal.returns-in_err-push-clause-kept
returns-in_err-push-clause-kept g c = on_err c.from_residual-in_err-push.result (λ k.
    let kept = same_replaced (λ list. list.items) c.self.inside.lists.items c.args.number k c.index_mut.result.now c.push.new.self c.index_mut.ensures.value c.in_err-push.ensures.items in
    rw (c.self.view_is, c.reach.ensures.same k) at kept)
