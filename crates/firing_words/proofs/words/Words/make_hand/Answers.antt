use Rattle.std.proofs.Common.{[], refl, sym, ap, subst}
use Rattle.conjunctive_compose.specs.System.{IsSystem}
use Rattle.firing_words.specs.Views.{opened_from}
use Rattle.firing_words.specs.Of.{seat_view}
use Rattle.firing_words.proofs.HandLaws.{agrees_fresh}
use Rattle.firing_words.proofs.words.Words.make_hand.Goals as goal

pub returns : goal.returns
returns c =
    let sys = c.args.self.now.setting.system in
    let r = c.requires in
    let lawful = subst IsSystem c.system-system.ensures.system c.system-system.ensures.lawful in (
      record {
        seat = r.seat.0;
        agrees = agrees_fresh sys (seat_view c.args.seat) c.args.caller c.args.space.known.items c.args.space.owed.items lawful r.seat.1 r.space.nothing r.space.ready;
        space = r.space.space;
        keeps = r.space.keeps;
      },
      r.seat.1,
      refl,
      r.space.nothing,
    )
