use Rattle.solution_text.proofs.Blocked.{pair_free}
use Rattle.solution_text.proofs.take.structure_of.Goals as goal

pub returns-in-Ok-clause-free : goal.returns-in-Ok-clause-free
returns-in-Ok-clause-free c = pair_free c.args.a.now c.args.b.now c.args.states.now c.args.moves.now c.in-Ok.ensures.lawful
