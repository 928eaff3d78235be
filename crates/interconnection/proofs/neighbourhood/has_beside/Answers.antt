use Rattle.interconnection.proofs.Growing.{found_at_place}
use Rattle.interconnection.proofs.neighbourhood.has_beside.Goals as goal

pub returns-in-Some : goal.returns-in-Some
returns-in-Some c =
    let at = c.in-Some.ensures.lookup.3 in
    found_at_place c.args.neighbours.now c.place_beside.result c.args.process c.in-Some.found.now c.requires c.place_beside.ensures.point at.0 at.1
