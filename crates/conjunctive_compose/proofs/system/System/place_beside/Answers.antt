use Rattle.conjunctive_compose.proofs.Neighbours.{are_beside}
use Rattle.conjunctive_compose.proofs.Peelings.{none_more}
use Rattle.conjunctive_compose.proofs.system.System.place_beside.Goals as goal

pub returns-clause-none : goal.returns-clause-none
returns-clause-none c =
    let are = rw c.network.ensures.network at c.neighbours-neighbours.ensures.neighbours in
    none_more c.args.self.now c.args.w.now c.args.peeling.now c.try_each.new.peeling c.args.next c.at-process.result c.neighbours-neighbours.result.now (are_beside c.args.self.now c.at-process.result c.neighbours-neighbours.result.now are) c.in_ok-try_each.ensures.grown c.requires.within c.at-process.ensures c.requires.none c.in_ok-try_each.ensures.tried
