use Rattle.std.proofs.Common.{ap, arith, length}
use Rattle.pair_structure.proofs.StartRows.{starts_within}
use Rattle.pair_structure.proofs.structure.PairStructure.start_count.Goals as goal

pub overflow_mul-result : goal.overflow_mul-result
overflow_mul-result c =
    let within = starts_within c.args.a.now c.args.b.now c.args.self.now.states c.requires.starts c.starts.ensures.role.begins c.starts-2.ensures.role.begins in
    let product = rw (← c.starts.ensures.starts, ← c.starts-2.ensures.starts) at within in
    omega (arith, product, ap length c.states-count.ensures.states, c.states-count.type_inv.0)
