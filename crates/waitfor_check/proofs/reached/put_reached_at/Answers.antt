use Rattle.waitfor_check.proofs.Risings.{targets_within}
use Rattle.waitfor_check.proofs.reached.put_reached_at.Goals as goal

pub push_reached-requires : goal.push_reached-requires
push_reached-requires c = rw c.moves_of-moves.ensures (targets_within c.args.structure.now c.args.side c.args.state c.states-labels.ensures.goes_on)
