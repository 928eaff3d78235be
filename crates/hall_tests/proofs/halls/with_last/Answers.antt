use Rattle.std.proofs.Common.{All, subst, sym}
use Rattle.std.proofs.lemmas.List.Elements.{All-push}
use Rattle.firing_hall.specs.Passes.{IsPassOf}
use Rattle.hall_tests.proofs.halls.with_last.Goals as goal

pub returns : goal.returns
returns c = subst (All (IsPassOf c.args.hall.now)) (sym c.in_ok-push.ensures.items) (All-push (IsPassOf c.args.hall.now) c.args.passes.items c.args.pass c.requires.passes c.requires.pass)
