use Rattle.firing_words.specs.Hands.{view}
use Rattle.firing_words.proofs.HandLaws.{agrees_locked, only_caller}
use Rattle.firing_words.proofs.words.Words.lock.Goals as goal

pub lock_seat-requires-clause-mine : goal.lock_seat-requires-clause-mine
lock_seat-requires-clause-mine c =
    let hand = c.args.hand.now in
    only_caller c.args.self.now.setting.system (view hand) hand.caller hand.stored hand.space.known.items hand.space.owed.items c.requires.one c.requires.of.agrees

pub returns-clause-of : goal.returns-clause-of
returns-clause-of c =
    let hand = c.args.hand.now in
    let of = c.requires.of in
    let told = c.lock_seat.ensures in
    record {
      seat = told.of;
      agrees = agrees_locked c.args.self.now.setting.system (view hand) _ c.args.lock hand.caller c.args.self.now.setting.callers hand.caller hand.stored hand.space.known.items hand.space.owed.items c.lock_seat.result told.won told.lost of.agrees;
      space = of.space;
      keeps = of.keeps;
    }
