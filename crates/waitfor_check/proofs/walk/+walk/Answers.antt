use Rattle.std.proofs.Common.{ℕ, ◌≡◌, ◌<◌, ◌+◌, ◌∷◌, ◌++◌, [], length, get_or, take, drop, set, length-set, arith, ◌∙◌, ap, subst}
use Rattle.std.proofs.lemmas.List.{get_or_default}
use Rattle.waitfor_check.specs.Closed.{IsFirstMissing}
use Rattle.waitfor_check.specs.inside.Walk.{AreMembers, completions}
use Rattle.waitfor_check.proofs.Walks.{all_members, chosen_kept, chosen_now, step_members, step_missing}
use Rattle.waitfor_check.proofs.walk.+walk.Goals as goal

pub returns-in-Missing : goal.returns-in-Missing
returns-in-Missing t c =
    let place_in : c.args.place < length c.args.lists.now = omega (arith, c.if-place-lists.false, c.requires.place) in
    let list : c.index-lists-place.result ≡ get_or c.args.lists.now c.args.place [] = c.index-lists-place.is ∙ get_or_default c.args.lists.now c.args.place c.index-lists-place.result [] place_in in
    let list' : c.index-lists-place-in-loop-i.result ≡ get_or c.args.lists.now c.args.place [] = c.index-lists-place-in-loop-i.is ∙ get_or_default c.args.lists.now c.args.place c.index-lists-place-in-loop-i.result [] place_in in
    let in' : c.loop-i.i < length (get_or c.args.lists.now c.args.place []) = omega (arith, c.loop-i-test.true, c.len-i-end.ensures, ap {B = ℕ} length list) in
    let x : c.at.result ≡ get_or (get_or c.args.lists.now c.args.place []) c.loop-i.i 0 = c.at.ensures ∙ ap {B = ℕ} (λ l. get_or l c.loop-i.i 0) list' in
    let target_in : c.args.place < length c.loop-i.target = omega (arith, place_in, c.loop-i.invariant.size) in
    let chosen = chosen_now c.args.place c.at.result c.loop-i.target c.args.target.now target_in c.loop-i.invariant.kept in
    let chosen' : take (c.args.place + 1) (set c.loop-i.target c.args.place c.at.result) ≡ take c.args.place c.args.target.now ++ get_or (get_or c.args.lists.now c.args.place []) c.loop-i.i 0 ∷ [] = chosen ∙ ap (λ x. take c.args.place c.args.target.now ++ x ∷ []) x in
    let here = subst (λ p. IsFirstMissing c.args.members.now (completions p (drop (c.args.place + 1) c.args.lists.now)) c.in-Missing.at) chosen' c.in-Missing.ensures.walked in
    let found = step_missing c.args.lists.now c.args.members.now (take c.args.place c.args.target.now) c.args.place c.loop-i.i c.loop-i.count c.in-Missing.at place_in in' c.requires.differ c.loop-i.invariant.count here in
    record {
      kept = chosen_kept c.args.place c.at.result c.loop-i.target c.walk.new.target c.args.target.now c.loop-i.invariant.kept c.in-Missing.ensures.kept;
      walked = found.0;
      bounded = found.1;
    }

pub loop-i-preserved : goal.loop-i-preserved
loop-i-preserved t c =
    let place_in : c.args.place < length c.args.lists.now = omega (arith, c.if-place-lists.false, c.requires.place) in
    let list : c.index-lists-place.result ≡ get_or c.args.lists.now c.args.place [] = c.index-lists-place.is ∙ get_or_default c.args.lists.now c.args.place c.index-lists-place.result [] place_in in
    let list' : c.index-lists-place-in-loop-i.result ≡ get_or c.args.lists.now c.args.place [] = c.index-lists-place-in-loop-i.is ∙ get_or_default c.args.lists.now c.args.place c.index-lists-place-in-loop-i.result [] place_in in
    let in' : c.loop-i.i < length (get_or c.args.lists.now c.args.place []) = omega (arith, c.loop-i-test.true, c.len-i-end.ensures, ap {B = ℕ} length list) in
    let x : c.at.result ≡ get_or (get_or c.args.lists.now c.args.place []) c.loop-i.i 0 = c.at.ensures ∙ ap {B = ℕ} (λ l. get_or l c.loop-i.i 0) list' in
    let target_in : c.args.place < length c.loop-i.target = omega (arith, place_in, c.loop-i.invariant.size) in
    let chosen = chosen_now c.args.place c.at.result c.loop-i.target c.args.target.now target_in c.loop-i.invariant.kept in
    let chosen' : take (c.args.place + 1) (set c.loop-i.target c.args.place c.at.result) ≡ take c.args.place c.args.target.now ++ get_or (get_or c.args.lists.now c.args.place []) c.loop-i.i 0 ∷ [] = chosen ∙ ap (λ x. take c.args.place c.args.target.now ++ x ∷ []) x in
    let here = subst (λ p. AreMembers c.args.members.now (completions p (drop (c.args.place + 1) c.args.lists.now)) c.in-All.more) chosen' c.in-All.ensures.walked in
    let all = step_members c.args.lists.now c.args.members.now (take c.args.place c.args.target.now) c.args.place c.loop-i.i c.loop-i.count c.in-All.more place_in in' c.requires.differ c.loop-i.invariant.count here in
    record {
      size = omega (arith, c.walk.auto.target, length-set c.loop-i.target c.args.place c.at.result, c.loop-i.invariant.size);
      kept = chosen_kept c.args.place c.at.result c.loop-i.target c.walk.new.target c.args.target.now c.loop-i.invariant.kept c.in-All.ensures.kept;
      count = all.0;
      bounded = all.1;
    }

pub returns-clause-walked : goal.returns-clause-walked
returns-clause-walked t c =
    let place_in : c.args.place < length c.args.lists.now = omega (arith, c.if-place-lists.false, c.requires.place) in
    let list : c.index-lists-place.result ≡ get_or c.args.lists.now c.args.place [] = c.index-lists-place.is ∙ get_or_default c.args.lists.now c.args.place c.index-lists-place.result [] place_in in
    all_members c.args.lists.now c.args.members.now (take c.args.place c.args.target.now) c.args.place c.loop-i.i c.loop-i.count place_in (omega (arith, c.loop-i-test.false, c.len-i-end.ensures, ap {B = ℕ} length list)) c.loop-i.invariant.count
