use Rattle.std.proofs.Common.{[], ◌∙◌, ◌++◌, length-append, arith, refl, sym, take}
use Rattle.firing_words.specs.Hands.{view}
use Rattle.firing_words.proofs.Lists.{nothing_in}
use Rattle.firing_hall.proofs.Losing.{lost_both, lost_none, refused_after, refused_as}
use Rattle.firing_hall.proofs.Same.{same_refl, same_trans, holds_more, next_free, holds_as, holds_all, at_has, knows_nothing}
use Rattle.firing_hall.proofs.firing.Hall.take_all.Goals as goal

pub take_one-requires-clause-free : goal.take_one-requires-clause-free
take_one-requires-clause-free c = let i = c.loop-i.invariant in next_free c.args.self.now.words.setting.system c.args.process (view c.loop-i.hand) c.args.plan.now c.loop-i.i c.loop-i-test.true c.requires.plan i.2

pub release-requires-clause-held : goal.release-requires-clause-held
release-requires-clause-held c = let i = c.loop-i.invariant in holds_as (view c.loop-i.hand) (view c.take_one.new.hand) (take c.loop-i.i c.args.plan.now) c.in-Some.ensures.lost.2 i.2

pub loop-i-preserved : goal.loop-i-preserved
loop-i-preserved c =
    let i = c.loop-i.invariant in
    let sys = c.args.self.now.words.setting.system in
    let k = c.args.process in
    let e = c.in-None.ensures in (
      e.of,
      same_trans _ _ _ i.1 e.items,
      holds_more (view c.loop-i.hand) (view c.take_one.new.hand) c.args.plan.now c.loop-i.i c.loop-i-test.true i.2 e.taken,
      (e.rest.0 ∙ i.3.0, e.rest.1 ∙ i.3.1),
      e.some_left,
      (
        i.5.0 ++ e.tries.0,
        lost_both sys k i.5.0 e.tries.0 (view c.args.hand.now) (view c.loop-i.hand) (view c.take_one.new.hand) i.5.1 e.tries.1,
        (let a = i.5.2 in let b = e.tries.2 in omega (arith, a, b, length-append i.5.0 e.tries.0)),
      ),
      e.caller ∙ i.6,
    )

pub returns-in-Some-clause-err : goal.returns-in-Some-clause-err
returns-in-Some-clause-err c = ((c.requires.plan.exactly _).0 (at_has c.args.plan.now c.loop-i.i c.loop-i-test.true), (λ same. c.in-Some.ensures.lost.0 (same ∙ sym c.loop-i.invariant.6)), c.in-Some.ensures.lost.1, c.release.ensures.quiet)

pub returns-clause-ok : goal.returns-clause-ok
returns-clause-ok c = let i = c.loop-i.invariant in (holds_all (view c.loop-i.hand) c.args.plan.now c.loop-i.i c.loop-i-test.false i.2, i.3)

pub release-requires-clause-known : goal.release-requires-clause-known
release-requires-clause-known c = let i = c.loop-i.invariant in knows_nothing c.args.self.now.words.setting.system (view c.take_one.new.hand) (c.in-Some.ensures.rest.0 ∙ i.3.0)

pub returns-in-Some-clause-refused : goal.returns-in-Some-clause-refused
returns-in-Some-clause-refused c =
    let sys = c.args.self.now.words.setting.system in
    let k = c.args.process in
    let lost = c.loop-i.invariant.5 in
    refused_as sys k c.args.tries _ (view c.args.hand.now) (view c.take_one.new.hand) (view c.release.new.hand)
    (refused_after sys k c.loop-i.left c.args.tries lost.0 _ (view c.args.hand.now) (view c.loop-i.hand) (view c.take_one.new.hand) lost.1 c.in-Some.ensures.refused lost.2)
    c.release.ensures.tracks

pub take_one-requires-clause-planned : goal.take_one-requires-clause-planned
take_one-requires-clause-planned c = (c.requires.plan.exactly _).0 (at_has c.args.plan.now c.loop-i.i c.loop-i-test.true)

pub loop-i-init : goal.loop-i-init
loop-i-init c =
    let v = view c.args.hand.now in
    (c.requires.of, same_refl v, (λ l. ((λ h. nothing_in l v.held c.requires.quiet.0 h), (λ h. absurd h))), (c.requires.quiet.1, c.requires.quiet.2), c.requires.tries, ([], lost_none c.args.self.now.words.setting.system c.args.process v, omega arith), refl)

pub returns-clause-tried : goal.returns-clause-tried
returns-clause-tried c = let tried = c.loop-i.invariant.5 in (tried.0, tried.1, omega (arith, tried.2, c.loop-i.invariant.4))

pub take_one-requires-clause-mine : goal.take_one-requires-clause-mine
take_one-requires-clause-mine c = (c.requires.mine.0, c.loop-i.invariant.1.callers ∙ c.requires.mine.1)
