use Rattle.std.proofs.Common.{arith, sym, subst}
use Rattle.firing_words.specs.Of.{system_of}
use Rattle.firing_words.specs.inside.Plays.{Mine}
use Rattle.firing_words.specs.Views.{IsPartOf}
use Rattle.firing_words.proofs.Seating.{unites_allow}
use Rattle.firing_words.proofs.words.Words.join_seats.Goals as goal

pub join_seat-requires : goal.join_seat-requires
join_seat-requires c =
    let self = c.args.self.now in
    let key = self.table.shared.key in
    let r = c.requires in (
      r.of.0.0,
      r.of.1.0,
      r.of.1.1,
      omega (arith, self.sized),
      unites_allow key c.args.hand.now.id c.args.other.id c.args.hand.now.me.0 c.args.other.me.0 r.quiet.0 r.quiet.1,
    )

pub returns-clause-part : goal.returns-clause-part
returns-clause-part c =
    let self = c.args.self.now in
    let told = c.tell_seat.ensures in
    (told.part.0, subst (λ (m : Mine). IsPartOf (system_of self) self.setting.callers m.0 told.part.0) (sym told.same) told.part.2)
