use Rattle.std.proofs.Common.{ℕ, ◌≡◌, ◌∙◌, ◌+◌, ◌++◌, ◌∷◌, [], refl, arith, sym, ap, subst}
use Rattle.interconnection.specs.declared.parts.Beside.{Beside}
use Rattle.conjunctive_compose.proofs.Neighbours.{are_beside}
use Rattle.firing_words.specs.declared.cell.Reading.{Reading}
use Rattle.firing_words.specs.Of.{seat_view}
use Rattle.firing_words.specs.inside.Judging.{IsStarUpTo}
use Rattle.firing_words.specs.Stars.{no_beside}
use Rattle.firing_words.proofs.Stars.{star_more, star_own}
use Rattle.firing_words.proofs.words.Words.gather.Goals as goal

pub loop-i-init : goal.loop-i-init
loop-i-init c =
    let found = c.find.ensures in (
      star_own c.args.process c.args.list.now c.find.result (seat_view c.args.seat.now).known c.push_reserved.new.self.items found.1 (c.requires.known c.find.result found.0) (c.push_reserved.ensures.items ∙ ap (λ l. l ++ c.find.result ∷ []) c.clear.ensures.items),
      refl,
    )

pub find-requires-in-loop-i : goal.find-requires-in-loop-i
find-requires-in-loop-i c =
    let b = (are_beside c.args.self.now.setting.system c.args.process c.args.list.now c.requires.list).each c.loop-i.i no_beside c.loop-i-test.true in
    c.requires.has.edges _ (b.within, (_, b.own))

pub loop-i-preserved : goal.loop-i-preserved
loop-i-preserved c =
    let found = c.find-in-loop-i.ensures in
    let r = c.find-in-loop-i.result in
    let push = c.push_reserved-in-loop-i.ensures in
    let known = (seat_view c.args.seat.now).known in (
      subst (IsStarUpTo (c.loop-i.i + 1) c.args.process c.args.list.now known) (sym push.items)
          (star_more c.loop-i.i c.args.process no_beside c.args.list.now r known c.loop-i.star.items c.loop-i-test.true c.loop-i.invariant.0 found.1 (c.requires.known r found.0)),
      push.capacity ∙ c.loop-i.invariant.1,
    )

pub returns-clause-star : goal.returns-clause-star
returns-clause-star c = subst (λ (n : ℕ). IsStarUpTo n c.args.process c.args.list.now (seat_view c.args.seat.now).known c.loop-i.star.items) (omega (arith, c.loop-i-test.false, c.loop-i.auto.i-end)) c.loop-i.invariant.0
