use Rattle.firing_words.specs.declared.view.Item.TheVariants.{Seen}
use Rattle.firing_words.specs.Hands.{view}
use Rattle.firing_words.specs.Of.{seat_view}
use Rattle.firing_words.proofs.HandLaws.{agrees_does}
use Rattle.firing_words.proofs.words.Words.look_pair.Goals as goal

pub returns-clause-of : goal.returns-clause-of
returns-clause-of c =
    let hand = c.args.hand.now in
    let of = c.requires.of in
    let told = c.look_seat-shown.ensures in
    record {
      seat = told.of;
      agrees = agrees_does c.args.self.now.setting.system (view hand) (seat_view c.look_seat-shown.new.hand) (Seen c.look_seat-shown.result) hand.caller hand.stored hand.space.known.items hand.space.owed.items told.looked of.agrees;
      space = of.space;
      keeps = of.keeps;
    }
