use Rattle.std.proofs.Common.{subst}
use Rattle.std.specs.Prelude.{IfSome}
use Rattle.std.proofs.lemmas.List.Elements.{All-pop}
use Rattle.firing_hall.specs.Passes.{IsPassOf}
use Rattle.hall_tests.proofs.halls.cut_last.Goals as goal

pub returns-in-Some-clause-rest : goal.returns-in-Some-clause-rest
returns-in-Some-clause-rest c = (All-pop (IsPassOf c.args.hall.now) c.args.passes.items c.pop.new.self.items c.pop.result c.pop.ensures.items c.requires).0

pub returns-in-Some-clause-last : goal.returns-in-Some-clause-last
returns-in-Some-clause-last c = subst (λ r. IfSome r (IsPassOf c.args.hall.now)) c.in-Some.is (All-pop (IsPassOf c.args.hall.now) c.args.passes.items c.pop.new.self.items c.pop.result c.pop.ensures.items c.requires).1
