use Rattle.std.proofs.Common.{List, ◌≤◌, length, arith, ap, sym, subst}
use Rattle.firing_words.specs.declared.cell.Reading.{Reading}
use Rattle.firing_words.specs.Of.{seat_view}
use Rattle.firing_words.specs.Hands.{Agrees, view}
use Rattle.firing_words.proofs.HandLaws.{agrees_knows}
use Rattle.firing_words.proofs.words.Words.read.Goals as goal

pub returns-clause-of : goal.returns-clause-of
returns-clause-of c =
    let hand = c.args.hand.now in
    let sys = c.args.self.now.setting.system in
    let of = c.requires.of in
    let told = c.read_seat-reading.ensures in
    let r = c.read_seat-reading.result in
    let kept = c.remember.ensures in
    record {
      seat = told.of;
      agrees = subst (λ (known : List Reading). Agrees sys (seat_view c.read_seat-reading.new.hand) hand.caller hand.stored known hand.space.owed.items) (sym kept.items)
          (agrees_knows sys (view hand) (seat_view c.read_seat-reading.new.hand) hand.caller hand.stored hand.most hand.space.known.items hand.space.owed.items r told.known told.possible told.cell.1 told.cell.2 of.agrees);
      space = of.space;
      keeps = (of.keeps.0, omega (arith, of.keeps.1, kept.capacity), kept.few, of.keeps.3);
    }
