use Rattle.conjunctive_compose.specs.Firing.{Moves}
use Rattle.conjunctive_compose.proofs.Pairs.{fired_proper}
use Rattle.conjunctive_compose.proofs.system.System.fire.Goals as goal

pub returns-in-None-clause-proper : goal.returns-in-None-clause-proper
returns-in-None-clause-proper c =
    let sys = c.args.self.now in
    let w = c.args.w.now in
    let moves : Moves sys w c.args.wish = record { fits = c.requires.fits; leaves = c.requires.leaves; permit = c.in-None.ensures.none } in
    rw (c.set_local.ensures, c.set_values.ensures, c.requires.to) (fired_proper sys w c.args.wish c.network.ensures.system c.requires.proper moves)
