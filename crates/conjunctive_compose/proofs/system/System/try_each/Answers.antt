use Rattle.pair_structure.specs.declared.side.Side.TheVariants.{A}
use Rattle.interconnection.specs.declared.parts.Beside.{Beside}
use Rattle.conjunctive_compose.proofs.Neighbours.{are_beside}
use Rattle.conjunctive_compose.proofs.Peelings.{beside_within, grown_again, tried_more}
use Rattle.conjunctive_compose.proofs.system.System.try_each.Goals as goal

nobody : Beside
nobody = record { process = 0; edge = 0; side = A }

pub try_to_place-requires-clause-within : goal.try_to_place-requires-clause-within
unfolding nobody
try_to_place-requires-clause-within c =
    let beside = (are_beside c.args.self.now c.args.process c.args.neighbours.now c.requires.neighbours).each c.loop-b.b-index nobody c.loop-b-test.true in
    beside_within c.args.self.now c.args.process _ c.network-network.ensures.system beside

pub loop-b-preserved : goal.loop-b-preserved
unfolding nobody
loop-b-preserved c = record {
  peeling = c.in_ok-try_to_place.ensures.peeling;
  grown = grown_again c.args.peeling.now c.loop-b.peeling c.try_to_place.new.peeling c.loop-b.invariant.grown c.in_ok-try_to_place.ensures.grown;
  tried = tried_more c.args.self.now c.args.w.now c.args.peeling.now c.loop-b.peeling c.try_to_place.new.peeling c.args.neighbours.now c.loop-b.b-index nobody c.loop-b-test.true c.loop-b.invariant.grown c.in_ok-try_to_place.ensures.grown c.loop-b.invariant.tried c.in_ok-try_to_place.ensures.tried;
}
