use Rattle.std.proofs.Common.{ℕ, ◌≡◌, ◌+◌, [], ◌∷◌, ◌++◌, length, length-append, arith, refl, sym, ◌∙◌, ap, subst, w8}
use Rattle.std.proofs.Math.Facts.{Fits-of_lt}
use Rattle.interconnection.specs.Graph.{IsBeside}
use Rattle.pair_structure.specs.declared.side.LocalArc.{LocalArc}
use Rattle.conjunctive_compose.specs.Firing.{arc_of}
use Rattle.conjunctive_compose.specs.NextPair.{IsLeft, IsNextPair, NeverPermits}
use Rattle.conjunctive_compose.specs.System.{IsSystem, SystemParts}
use Rattle.conjunctive_compose.proofs.Neighbours.{are_beside}
use Rattle.firing_words.specs.Of.{seat_view}
use Rattle.firing_words.specs.inside.Judging.{IsNextUpTo, reading_at}
use Rattle.firing_words.specs.Stars.{beside_at, no_beside}
use Rattle.firing_words.proofs.Decided.{away, blocked, is_left, local_small, moved, neighbour_in, next_first, next_more, own_next, pair_next, storable}
use Rattle.firing_words.proofs.words.Words.judge_star.Goals as goal

pub overflow_cast-result : goal.overflow_cast-result
overflow_cast-result c =
    let sys = c.args.self.now.setting.system in
    let wish = c.args.wish in
    let list = c.args.list.now in
    let known = (seat_view c.args.seat.now).known in
    let readings = c.args.readings.now in
    let r = c.requires in
    let same : c.system-system.result.now ≡ sys = c.system-system.ensures.system in
    let lawful : IsSystem sys = subst IsSystem same c.system-system.ensures.lawful in
    Fits-of_lt {w = w8} (local_small sys wish list known readings lawful r.fits r.list r.star r.possible)

pub returns-then-arc-own-clause-judged : goal.returns-then-arc-own-clause-judged
returns-then-arc-own-clause-judged c =
    let sys = c.args.self.now.setting.system in
    let wish = c.args.wish in
    let list = c.args.list.now in
    let known = (seat_view c.args.seat.now).known in
    let readings = c.args.readings.now in
    let r = c.requires in
    let same : c.system-system.result.now ≡ sys = c.system-system.ensures.system in
    let lawful : IsSystem sys = subst IsSystem same c.system-system.ensures.lawful in
    let arc_is : c.arc-arc.result ≡ arc_of sys wish.process wish.arc = c.arc-arc.ensures ∙ ap (λ (s : SystemParts). arc_of s wish.process wish.arc) same in
    away sys wish list known readings lawful r.fits r.list r.star (λ e. c.if-arc-own.true (ap {B = ℕ} (λ (a : LocalArc). a.from) arc_is ∙ e))

pub loop-i-init : goal.loop-i-init
loop-i-init c =
    let sys = c.args.self.now.setting.system in
    let wish = c.args.wish in
    let list = c.args.list.now in
    let known = (seat_view c.args.seat.now).known in
    let readings = c.args.readings.now in
    let r = c.requires in
    let same : c.system-system.result.now ≡ sys = c.system-system.ensures.system in
    let lawful : IsSystem sys = subst IsSystem same c.system-system.ensures.lawful in
    let arc_is : c.arc-arc.result ≡ arc_of sys wish.process wish.arc = c.arc-arc.ensures ∙ ap (λ (s : SystemParts). arc_of s wish.process wish.arc) same in
    let from : (arc_of sys wish.process wish.arc).from ≡ (reading_at readings 0).content = ap {B = ℕ} (λ (a : LocalArc). a.from) (sym arc_is) ∙ c.if-arc-own.false in
    let items : c.push_reserved.new.self.items ≡ own_next sys wish list known readings lawful r.fits r.list r.star ∷ [] =
    c.push_reserved.ensures.items ∙ ((λ i. c.clear.ensures.items i ++ record { cell = (reading_at readings 0).cell; moves = (reading_at readings 0).moves + 1; content = (arc_is i).to } ∷ [])) in
    (next_first sys wish list known readings lawful r.fits r.list r.star c.push_reserved.new.self.items from items, ap length items, refl)

pub next_pair-requires-clause-beside : goal.next_pair-requires-clause-beside
next_pair-requires-clause-beside c =
    let sys = c.args.self.now.setting.system in
    let wish = c.args.wish in
    let list = c.args.list.now in
    let known = (seat_view c.args.seat.now).known in
    let readings = c.args.readings.now in
    let r = c.requires in
    let same : c.system-system.result.now ≡ sys = c.system-system.ensures.system in
    let lawful : IsSystem sys = subst IsSystem same c.system-system.ensures.lawful in
    subst (λ (s : SystemParts). IsBeside s.network.edges wish.process (beside_at list c.loop-i.i)) (sym same) ((are_beside sys wish.process list r.list).each c.loop-i.i no_beside c.loop-i-test.true)

pub next_pair-requires-clause-left : goal.next_pair-requires-clause-left
next_pair-requires-clause-left c =
    let sys = c.args.self.now.setting.system in
    let wish = c.args.wish in
    let list = c.args.list.now in
    let known = (seat_view c.args.seat.now).known in
    let readings = c.args.readings.now in
    let r = c.requires in
    let same : c.system-system.result.now ≡ sys = c.system-system.ensures.system in
    let lawful : IsSystem sys = subst IsSystem same c.system-system.ensures.lawful in
    let arc_is : c.arc-arc.result ≡ arc_of sys wish.process wish.arc = c.arc-arc.ensures ∙ ap (λ (s : SystemParts). arc_of s wish.process wish.arc) same in
    let from : (arc_of sys wish.process wish.arc).from ≡ (reading_at readings 0).content = ap {B = ℕ} (λ (a : LocalArc). a.from) (sym arc_is) ∙ c.if-arc-own.false in
    subst (λ (s : SystemParts). IsLeft s wish (beside_at list c.loop-i.i) (reading_at readings (c.loop-i.i + 1)).content) (sym same) (is_left sys wish list known readings lawful r.fits r.list r.star c.loop-i.i c.loop-i-test.true r.possible from)

pub returns-in-None-clause-judged : goal.returns-in-None-clause-judged
returns-in-None-clause-judged c =
    let sys = c.args.self.now.setting.system in
    let wish = c.args.wish in
    let list = c.args.list.now in
    let known = (seat_view c.args.seat.now).known in
    let readings = c.args.readings.now in
    let r = c.requires in
    let same : c.system-system.result.now ≡ sys = c.system-system.ensures.system in
    let lawful : IsSystem sys = subst IsSystem same c.system-system.ensures.lawful in
    let arc_is : c.arc-arc.result ≡ arc_of sys wish.process wish.arc = c.arc-arc.ensures ∙ ap (λ (s : SystemParts). arc_of s wish.process wish.arc) same in
    let from : (arc_of sys wish.process wish.arc).from ≡ (reading_at readings 0).content = ap {B = ℕ} (λ (a : LocalArc). a.from) (sym arc_is) ∙ c.if-arc-own.false in
    blocked sys wish list known readings lawful r.fits r.list r.star c.loop-i.i c.loop-i.stores.items c.loop-i-test.true from c.loop-i.invariant.0 (subst (λ (s : SystemParts). NeverPermits s wish (beside_at list c.loop-i.i) (reading_at readings (c.loop-i.i + 1)).content) same c.in-None.ensures.none)

pub loop-i-preserved : goal.loop-i-preserved
loop-i-preserved c =
    let sys = c.args.self.now.setting.system in
    let wish = c.args.wish in
    let list = c.args.list.now in
    let known = (seat_view c.args.seat.now).known in
    let readings = c.args.readings.now in
    let r = c.requires in
    let same : c.system-system.result.now ≡ sys = c.system-system.ensures.system in
    let lawful : IsSystem sys = subst IsSystem same c.system-system.ensures.lawful in
    let i = c.loop-i.invariant in
    let push = c.push_reserved-in-Some.ensures in
    let next = subst (λ (s : SystemParts). IsNextPair s wish (beside_at list c.loop-i.i) (reading_at readings (c.loop-i.i + 1)).content c.in-Some.next) same c.in-Some.ensures.some in
    let new = pair_next sys wish list known readings lawful r.fits r.list r.star c.loop-i.i c.in-Some.next in (
      subst (IsNextUpTo sys (c.loop-i.i + 1) wish list known readings) (sym push.items) (next_more sys wish list known readings lawful r.fits r.list r.star c.loop-i.i c.in-Some.next c.loop-i.stores.items c.loop-i-test.true i.0 next),
      omega (arith, ap length push.items, length-append c.loop-i.stores.items (new ∷ []), i.1),
      push.capacity ∙ i.2,
    )

pub returns-clause-judged : goal.returns-clause-judged
returns-clause-judged c =
    let sys = c.args.self.now.setting.system in
    let wish = c.args.wish in
    let list = c.args.list.now in
    let known = (seat_view c.args.seat.now).known in
    let readings = c.args.readings.now in
    let r = c.requires in
    let same : c.system-system.result.now ≡ sys = c.system-system.ensures.system in
    let lawful : IsSystem sys = subst IsSystem same c.system-system.ensures.lawful in
    let i = c.loop-i.invariant in
    let all : c.loop-i.i ≡ length list = omega (arith, c.loop-i-test.false, c.loop-i.auto.i-end) in
    let whole = subst (λ (n : ℕ). IsNextUpTo sys n wish list known readings c.loop-i.stores.items) all i.0 in
    (moved sys wish list known readings lawful r.fits r.list r.star c.loop-i.stores.items whole, storable sys wish list known readings lawful r.fits r.list r.star c.loop-i.i c.loop-i.stores.items i.0)

pub returns-in-None-clause-named : goal.returns-in-None-clause-named
returns-in-None-clause-named c =
    let sys = c.args.self.now.setting.system in
    let r = c.requires in
    let lawful : IsSystem sys = subst IsSystem c.system-system.ensures.system c.system-system.ensures.lawful in
    neighbour_in sys c.args.wish c.args.list.now (seat_view c.args.seat.now).known c.args.readings.now lawful r.fits r.list r.star c.loop-i.i c.loop-i-test.true
