use Rattle.std.proofs.Common.{◌++◌, ◌∷◌, [], length-append, refl, sym, ap, ◌∙◌, arith}
use Rattle.firing_words.specs.declared.view.View.{View}
use Rattle.firing_words.specs.Hands.{view}
use Rattle.firing_hall.specs.Tries.{try_at}
use Rattle.firing_hall.proofs.Losing.{lost_both, lost_none, lost_one}
use Rattle.firing_hall.proofs.Same.{same_refl, same_tried}
use Rattle.firing_hall.proofs.firing.Hall.take_one.Goals as goal

pub loop-preserved : goal.loop-preserved
loop-preserved c =
    let i = c.loop.invariant in
    let sys = c.args.self.now.words.setting.system in
    let k = c.args.process in
    let now = try_at c.args.lock c.in-Err.other in
    let lost = c.in-Err.ensures.lost in (
      c.in-Err.ensures.of,
      same_tried _ _ _ _ _ i.1 lost.2,
      ap (λ (v : View). v.held) lost.2 ∙ i.2,
      ap (λ (v : View). v.known) lost.2 ∙ i.3,
      ap (λ (v : View). v.owed) lost.2 ∙ i.4,
      (λ _. ((λ same. lost.0 (same ∙ sym i.8)), lost.1)),
      omega (arith, i.6, c.loop-test.true),
      (
        i.7.0 ++ now ∷ [],
        lost_both sys k i.7.0 (now ∷ []) (view c.args.hand.now) (view c.loop.hand) (view c.lock.new.hand) i.7.1 (lost_one sys k c.args.lock now.holder (view c.loop.hand) (view c.lock.new.hand) c.requires.planned lost.2),
        omega (arith, length-append i.7.0 (now ∷ []), i.7.2),
        (λ _. (i.7.0, refl)),
      ),
      c.in-Err.ensures.same.0.0 ∙ i.8,
    )

pub loop-init : goal.loop-init
loop-init c = (c.requires.of, same_refl (view c.args.hand.now), refl, refl, refl, (λ some. absurd (omega (arith, some))), omega arith, ([], lost_none c.args.self.now.words.setting.system c.args.process (view c.args.hand.now), refl, (λ some. absurd (omega (arith, some)))), refl)

pub lock-requires-clause-one : goal.lock-requires-clause-one
lock-requires-clause-one c = (c.requires.mine.0, c.loop.invariant.1.callers ∙ c.requires.mine.1)
