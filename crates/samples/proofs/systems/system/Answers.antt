use Rattle.std.proofs.Common.{ℕ, length, ap, arith}
use Rattle.samples.proofs.OneStructure.{one_structure}
use Rattle.samples.proofs.systems.system.Goals as goal

pub make-requires : goal.make-requires
make-requires c = rw (c.deref.ensures.value, c.in_ok-structures.ensures) (one_structure c.in_ok-network.network c.in_ok-role.role c.in_ok-m.m c.in_ok-network.ensures.roles c.in_ok-network.ensures.ends c.in_ok-m.ensures (omega (arith, c.if-states-gt1000.false, ap {B = ℕ} length c.states.ensures.states)))
