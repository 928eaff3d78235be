use Rattle.solution_text.proofs.Satisfied.{over_count}
use Rattle.solution_text.proofs.Written.{written_is_text}
use Rattle.solution_text.proofs.write.write_solution.Goals as goal

pub write_structures-requires-clause-count : goal.write_structures-requires-clause-count
write_structures-requires-clause-count c = rw (c.structures.ensures, c.kinds.ensures.kinds) (over_count _ _ _ c.requires)

pub returns-clause-text : goal.returns-clause-text
returns-clause-text c = written_is_text c.args.spec.now c.args.sol.now c.network.ensures.sound c.requires (rw c.structures.ensures at c.in_ok-write_structures.ensures.numbered)
