use Rattle.conjunctive_compose.proofs.Peelings.{free_more}
use Rattle.conjunctive_compose.proofs.system.System.place_free.Goals as goal

pub loop-k-preserved : goal.loop-k-preserved
loop-k-preserved c = record {
  peeling = c.in_ok-try_to_place.ensures.peeling;
  tried = free_more c.args.self.now c.args.w.now c.loop-k.peeling c.try_to_place.new.peeling c.loop-k.k c.in_ok-try_to_place.ensures.grown c.loop-k.invariant.tried c.in_ok-try_to_place.ensures.tried;
}
