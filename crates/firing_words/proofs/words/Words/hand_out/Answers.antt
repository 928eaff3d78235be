use Rattle.std.proofs.Common.{◌≡◌, ◌<◌, ◌+◌, length, length-append, ap, arith, sym, ◌∙◌, subst}
use Rattle.std.specs.Option.{option_to_list}
use Rattle.std.specs.Prelude.{IfSome}
use Rattle.std.proofs.lemmas.List.Elements.{All-pop}
use Rattle.firing_words.specs.Of.{system_of}
use Rattle.firing_words.specs.inside.Dealing.{AreSeatsFrom, IsSpaceFor}
use Rattle.firing_words.proofs.HandDealing.{first_dealt, hands_push, rest_dealt}
use Rattle.firing_words.proofs.words.Words.hand_out.Goals as goal

pub make_hand-requires-clause-seat : goal.make_hand-requires-clause-seat
make_hand-requires-clause-seat c =
    let hands = c.loop-caller.seats in
    let i = c.loop-caller.invariant in
    let some : 0 < length hands.items = omega (arith, i.1, c.loop-caller-test.true, c.loop-caller.auto.caller-end, c.callers-caller-end.ensures) in
    first_dealt c.args.self.now c.loop-caller.caller hands.items c.remove-seat.result i.0 some c.remove-seat.ensures.value

pub make_hand-requires-clause-space : goal.make_hand-requires-clause-space
make_hand-requires-clause-space c =
    let part = IsSpaceFor (system_of c.args.self.now) c.args.most in
    subst (λ r. IfSome r part) c.in-Some.is (All-pop part c.loop-caller.spaces.items c.pop.new.self.items c.pop.result c.pop.ensures.items c.loop-caller.invariant.2).1

pub loop-caller-preserved : goal.loop-caller-preserved
loop-caller-preserved c =
    let words = c.args.self.now in
    let k = c.loop-caller.caller in
    let i = c.loop-caller.invariant in
    let part = IsSpaceFor (system_of words) c.args.most in
    let gone = c.remove-seat.ensures in
    let popped : length c.loop-caller.spaces.items ≡ length c.pop.new.self.items + 1 = ap length c.pop.ensures.items ∙ (length-append c.pop.new.self.items (option_to_list c.pop.result) ∙ ap (λ r. length c.pop.new.self.items + length (option_to_list r)) c.in-Some.is) in
    let push = c.push_reserved.ensures in (
      subst (AreSeatsFrom words (k + 1)) (sym gone.items) (rest_dealt words k c.loop-caller.seats.items i.0),
      omega (arith, i.1, gone.len, c.loop-caller.seats.ok, c.remove-seat.new.self.ok),
      (All-pop part c.loop-caller.spaces.items c.pop.new.self.items c.pop.result c.pop.ensures.items i.2).0,
      omega (arith, i.3, popped),
      hands_push c.args.self.now c.loop-caller.hands.items c.push_reserved.new.self.items c.make_hand.result k i.4 c.make_hand.ensures push.items,
      omega (arith, push.capacity, i.5),
    )
