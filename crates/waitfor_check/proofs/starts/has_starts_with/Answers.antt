use Rattle.std.proofs.Common.{ℕ, ◌≡◌, ◌<◌, ◌↔◌, IsTrue, Contains, List, length, subst, sym, ap, ◌∙◌, arith}
use Rattle.std.proofs.lemmas.List.{with_items_is}
use Rattle.waitfor_check.specs.Choices.{choices}
use Rattle.waitfor_check.specs.inside.Begins.{begins_by}
use Rattle.waitfor_check.specs.inside.Walk.{EachDiffer, IsWalked}
use Rattle.waitfor_check.proofs.StartChoices.{all_walked, begins_differ, shown}
use Rattle.waitfor_check.proofs.starts.has_starts_with.Goals as goal

pub walk_all-walked-requires-clause-differ : goal.walk_all-walked-requires-clause-differ
walk_all-walked-requires-clause-differ c =
    let size : length c.put_begins.new.lists ≡ c.args.room.now.lists.len = omega (arith, c.put_begins.auto.lists, c.deref_mut.ensures.len) in
    let lists = c.deref.ensures.value ∙ with_items_is c.args.room.now.lists c.put_begins.new.lists size ∙ c.in_ok-put_begins.ensures in
    subst (λ (lists : List (List ℕ)). EachDiffer lists) (sym lists) (begins_differ c.args.system.now c.args.star.now.shape c.args.begins.now c.shown_by-local.result c.requires.begins)

pub returns-clause-has : goal.returns-clause-has
returns-clause-has c =
    let size : length c.put_begins.new.lists ≡ c.args.room.now.lists.len = omega (arith, c.put_begins.auto.lists, c.deref_mut.ensures.len) in
    let lists : c.deref.result.now ≡ begins_by c.args.system.now c.args.star.now.shape c.args.begins.now c.shown_by-local.result = c.deref.ensures.value ∙ with_items_is c.args.room.now.lists c.put_begins.new.lists size ∙ c.in_ok-put_begins.ensures in
    let lists' : c.deref.result.now ≡ begins_by c.args.system.now c.args.star.now.shape c.args.begins.now (shown c.args.system.now c.args.star.now.shape c.args.state) = lists ∙ ap {B = List (List ℕ)} (begins_by c.args.system.now c.args.star.now.shape c.args.begins.now) c.shown_by-local.ensures in
    let walked = subst (λ (lists : List (List ℕ)). IsWalked c.args.star.now.members (choices lists) c.walk_all-walked.result) lists' c.walk_all-walked.ensures.walked in
    let all = all_walked c.args.star.now.members (choices (begins_by c.args.system.now c.args.star.now.shape c.args.begins.now (shown c.args.system.now c.args.star.now.shape c.args.state))) c.walk_all-walked.result walked in
    (λ yes. all.0 (c.is_all.ensures.0 yes), λ has. c.is_all.ensures.1 (all.1 has))
