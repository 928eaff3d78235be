use Rattle.firing_hall.specs.Passes.{IsPassOf}
use Rattle.hall_tests.proofs.Sliced.{all_sliced}
use Rattle.hall_tests.proofs.acts.play.Goals as goal

pub returns : goal.returns
returns c = all_sliced (IsPassOf c.args.hall.now) c.args.passes.len c.told.new.passes c.args.passes.items c.told.ensures c.requires
