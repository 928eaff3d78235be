use Rattle.firing_words.specs.Hands.{view}
use Rattle.firing_words.proofs.HandLaws.{agrees_does}
use Rattle.firing_words.proofs.words.Words.place.Goals as goal

pub returns-clause-of : goal.returns-clause-of
returns-clause-of c =
    let hand = c.args.hand.now in
    let of = c.requires.of in
    let told = c.place_seat.ensures in
    record {
      seat = told.of;
      agrees = agrees_does c.args.self.now.setting.system (view hand) _ _ hand.caller hand.stored hand.space.known.items hand.space.owed.items told.placed of.agrees;
      space = of.space;
      keeps = of.keeps;
    }
