use Rattle.std.proofs.Common.{◌≡◌, map, ◌∙◌, sym, ap, subst}
use Rattle.firing_words.specs.declared.view.Item.TheVariants.{Made, Placed}
use Rattle.firing_words.specs.declared.view.View.{View}
use Rattle.firing_words.specs.Hands.{view}
use Rattle.firing_words.specs.Lists.{Has}
use Rattle.firing_words.specs.Views.{HoldsPlan, IsOne, track_does}
use Rattle.firing_hall.specs.inside.Locks.{KnowsHeld}
use Rattle.firing_hall.proofs.Losing.{tries_same}
use Rattle.firing_hall.proofs.Same.{one_item}
use Rattle.firing_hall.proofs.firing.Hall.reply.Goals as goal

pub returns-in-Moved-clause-replied : goal.returns-in-Moved-clause-replied
returns-in-Moved-clause-replied c = λ _.
    let z = Made c.commit-number.result c.args.wish in
    one_item z (view c.args.hand.now) (view c.store_all.new.hand) (c.store_all.ensures.rest.0 ∙ (ap (λ (v : View). v.tracks) c.commit-number.ensures.committed.2 ∙ ap (λ (v : View). map (track_does z) v.tracks) c.decide.ensures.same.2))

pub returns-in-Moved-clause-tries : goal.returns-in-Moved-clause-tries
returns-in-Moved-clause-tries c =
    let z = Made c.commit-number.result c.args.wish in
    tries_same z (view c.args.hand.now) (view c.store_all.new.hand) (c.store_all.ensures.rest.0 ∙ (ap (λ (v : View). v.tracks) c.commit-number.ensures.committed.2 ∙ ap (λ (v : View). map (track_does z) v.tracks) c.decide.ensures.same.2))

pub returns-in-Away-clause-known : goal.returns-in-Away-clause-known
returns-in-Away-clause-known c = let sys = c.args.self.now.words.setting.system in subst (KnowsHeld sys) (sym c.place-at.ensures.placed) (subst (KnowsHeld sys) (sym c.decide.ensures.same.2) c.requires.known)

pub returns-in-Away-clause-replied : goal.returns-in-Away-clause-replied
returns-in-Away-clause-replied c = λ _. (
  (view c.args.hand.now).known,
  one_item _ (view c.args.hand.now) (view c.place-at.new.hand) (ap (λ (v : View). v.tracks) c.place-at.ensures.placed ∙ ap (λ (v : View). map (track_does (Placed c.place-at.result c.args.wish.process v.known)) v.tracks) c.decide.ensures.same.2),
  c.in-Away.ensures.answered,
)

pub returns-in-Away-clause-tries : goal.returns-in-Away-clause-tries
returns-in-Away-clause-tries c = tries_same _ (view c.args.hand.now) (view c.place-at.new.hand) (ap (λ (v : View). v.tracks) c.place-at.ensures.placed ∙ ap (λ (v : View). map (track_does (Placed c.place-at.result c.args.wish.process v.known)) v.tracks) c.decide.ensures.same.2)

pub returns-in-Blocked-clause-known : goal.returns-in-Blocked-clause-known
returns-in-Blocked-clause-known c = let sys = c.args.self.now.words.setting.system in subst (KnowsHeld sys) (sym c.place-at-in-Blocked.ensures.placed) (subst (KnowsHeld sys) (sym c.decide.ensures.same.2) c.requires.known)

pub returns-in-Blocked-clause-replied : goal.returns-in-Blocked-clause-replied
returns-in-Blocked-clause-replied c = λ _. (
  (view c.args.hand.now).known,
  one_item _ (view c.args.hand.now) (view c.place-at-in-Blocked.new.hand)
      (ap (λ (v : View). v.tracks) c.place-at-in-Blocked.ensures.placed ∙ ap (λ (v : View). map (track_does (Placed c.place-at-in-Blocked.result c.args.wish.process v.known)) v.tracks) c.decide.ensures.same.2),
  c.in-Blocked.ensures.answered,
)

pub returns-in-Blocked-clause-tries : goal.returns-in-Blocked-clause-tries
returns-in-Blocked-clause-tries c = tries_same _ (view c.args.hand.now) (view c.place-at-in-Blocked.new.hand)
    (ap (λ (v : View). v.tracks) c.place-at-in-Blocked.ensures.placed ∙ ap (λ (v : View). map (track_does (Placed c.place-at-in-Blocked.result c.args.wish.process v.known)) v.tracks) c.decide.ensures.same.2)

pub commit-number-requires-clause-one : goal.commit-number-requires-clause-one
commit-number-requires-clause-one c = subst IsOne (sym c.decide.ensures.same.2) c.requires.mine

pub commit-number-requires-clause-plan : goal.commit-number-requires-clause-plan
commit-number-requires-clause-plan c = subst (λ (v : View). HoldsPlan c.args.self.now.words.setting.system v c.args.wish.process) (sym c.decide.ensures.same.2) c.requires.plan

pub place-at-requires-clause-plan : goal.place-at-requires-clause-plan
place-at-requires-clause-plan c = subst (λ (v : View). HoldsPlan c.args.self.now.words.setting.system v c.args.wish.process) (sym c.decide.ensures.same.2) c.requires.plan

pub place-at-requires-in-Blocked-clause-plan : goal.place-at-requires-in-Blocked-clause-plan
place-at-requires-in-Blocked-clause-plan c = subst (λ (v : View). HoldsPlan c.args.self.now.words.setting.system v c.args.wish.process) (sym c.decide.ensures.same.2) c.requires.plan
