use Rattle.std.proofs.Common.{[], ◌∷◌, inl, refl, subst, w8}
use Rattle.std.proofs.Math.Facts.{Fits-of_lt}
use Rattle.conjunctive_compose.specs.System.{IsSystem}
use Rattle.firing_words.specs.declared.view.Item.TheVariants.{Seen}
use Rattle.firing_words.specs.Hands.{view}
use Rattle.firing_words.specs.Of.{seat_view}
use Rattle.firing_words.proofs.HandLaws.{agrees_does, local_small}
use Rattle.firing_words.proofs.words.Words.look.Goals as goal

pub overflow_cast-result : goal.overflow_cast-result
overflow_cast-result c =
    let sys = c.args.self.now.setting.system in
    let told = c.look_seat-shown.ensures in
    let lawful = subst IsSystem c.system-system.ensures.system c.system-system.ensures.lawful in
    Fits-of_lt {w = w8} (local_small sys c.args.process c.look_seat-shown.result (c.look_seat-shown.result ∷ []) lawful c.requires.within told.cell.0 (inl refl) told.possible)

pub returns-clause-of : goal.returns-clause-of
returns-clause-of c =
    let hand = c.args.hand.now in
    let of = c.requires.of in
    let told = c.look_seat-shown.ensures in
    record {
      seat = told.of;
      agrees = agrees_does c.args.self.now.setting.system (view hand) (seat_view c.look_seat-shown.new.hand) (Seen c.look_seat-shown.result) hand.caller hand.stored hand.space.known.items hand.space.owed.items told.looked of.agrees;
      space = of.space;
      keeps = of.keeps;
    }
