use Rattle.std.proofs.Common.{List, ◌≡◌, sym, ap, subst}
use Rattle.firing_words.specs.declared.view.View.{View}
use Rattle.firing_words.specs.Hands.{Agrees, view}
use Rattle.firing_words.specs.inside.Plays.{Mine}
use Rattle.firing_words.proofs.words.Words.tell.Goals as goal

pub returns-clause-of : goal.returns-clause-of
returns-clause-of c =
    let hand = c.args.hand.now in
    let of = c.requires.of in
    let told = c.tell_seat.ensures in
    record {
      seat = told.of;
      agrees = subst (λ (m : Mine). Agrees c.args.self.now.setting.system m.0 hand.caller hand.stored hand.space.known.items hand.space.owed.items) (sym told.same) of.agrees;
      space = of.space;
      keeps = of.keeps;
    }
