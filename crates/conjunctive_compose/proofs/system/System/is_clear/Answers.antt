use Rattle.std.proofs.Common.{eq-eqb, eqb-true}
use Rattle.conjunctive_compose.proofs.Neighbours.{are_beside}
use Rattle.conjunctive_compose.proofs.Passing.{clear_exactly, count_within, counted}
use Rattle.conjunctive_compose.proofs.system.System.is_clear.Goals as goal

pub set_passed-requires : goal.set_passed-requires
set_passed-requires c = (count_within c.args.self.now c.args.w.now c.args.peeling.now c.args.wish.process c.args.wish.arc c.network-network.ensures.system c.requires.peeling c.requires.fits).1

pub returns-clause-peeling : goal.returns-clause-peeling
returns-clause-peeling c =
    let within = count_within c.args.self.now c.args.w.now c.args.peeling.now c.args.wish.process c.args.wish.arc c.network-network.ensures.system c.requires.peeling c.requires.fits in
    rw c.set_passed.ensures (counted c.args.self.now c.args.w.now c.args.peeling.now c.args.wish.process c.args.wish.arc c.count_passed-passed.result c.args.neighbours.now c.requires.peeling within.0 within.1 c.requires.neighbours c.count_passed-passed.ensures.past)

pub returns-clause-clear : goal.returns-clause-clear
returns-clause-clear c =
    let exactly = clear_exactly c.args.self.now c.args.w.now c.args.peeling.now.marks c.args.wish.process c.args.wish.arc c.args.neighbours.now c.count_passed-passed.result (are_beside c.args.self.now c.args.wish.process c.args.neighbours.now c.requires.neighbours) c.count_passed-passed.ensures.within c.count_passed-passed.ensures.past c.count_passed-passed.ensures.stops in
    (λ same. exactly.0 (eqb-true _ _ same), λ clear. eq-eqb _ _ (exactly.1 clear))
