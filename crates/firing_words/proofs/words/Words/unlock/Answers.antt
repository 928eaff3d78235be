use Rattle.std.proofs.Common.{◌≤◌, length, arith, ap}
use Rattle.firing_words.specs.Hands.{view}
use Rattle.firing_words.proofs.HandLaws.{agrees_unlocked}
use Rattle.firing_words.proofs.words.Words.unlock.Goals as goal

pub returns-clause-of : goal.returns-clause-of
returns-clause-of c =
    let hand = c.args.hand.now in
    let of = c.requires.of in
    let told = c.unlock_seat.ensures in
    record {
      seat = told.of;
      agrees = agrees_unlocked c.args.self.now.setting.system (view hand) _ c.args.lock hand.caller hand.stored hand.space.known.items _ hand.space.owed.items told.unlocked c.clear.ensures.items of.agrees;
      space = of.space;
      keeps = (of.keeps.0, omega (arith, of.keeps.1, c.clear.ensures.capacity), omega (arith, ap length c.clear.ensures.items), of.keeps.3);
    }
