use Rattle.std.proofs.Common.{◌<◌, length, arith}
use Rattle.firing_hall.specs.Opening.{IsFresh}
use Rattle.firing_crew.proofs.Begun.{fresh_from}
use Rattle.firing_crew.proofs.ByPlace.{from_first}
use Rattle.firing_crew.proofs.alone.fill.Goals as goal

pub make_worker-requires-clause-fresh : goal.make_worker-requires-clause-fresh
make_worker-requires-clause-fresh g c =
    let hall = c.args.hall.now in
    let passes = c.args.passes.now.items in
    let some : 0 < length passes = omega (arith, c.requires.passes.0) in
    from_first (IsFresh hall) 0 passes c.remove-pass.result (fresh_from hall 1 passes c.requires.passes) some c.remove-pass.ensures.value
