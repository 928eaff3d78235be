use Rattle.std.proofs.lemmas.List.Elements.{All-set}
use Rattle.firing_hall.specs.Passes.{IsPassOf}
use Rattle.hall_tests.proofs.acts.act_by.Goals as goal

pub returns : goal.returns
returns c = All-set (IsPassOf c.args.hall.now) c.args.passes.now c.args.caller c.act.new.pass c.act.ensures c.requires
