-- The order of positions tells all positions apart.
use Rattle.std.specs.Prelude.{ℕ}
use Rattle.std.proofs.Common.{ap}
use Rattle.std.specs.declared.cmp.Ordering.{Ordering}
use Rattle.std.specs.Ordering.{nat_cmp}
use Rattle.std.proofs.lemmas.Map.Lookups.{CmpEqualImpliesEq, exact_pairs, exact_unsigned}
use Rattle.deletion_rules.specs.contracts.position.PositionOrd.TheImpl as position_ord
use Rattle.deletion_rules.specs.declared.position.Position.{Position}

abbrev position_cmp : Position → Position → Ordering
position_cmp = (position_ord.ghosts).cmp

abbrev position_of : ℕ × ℕ → Position
position_of pair = record { node = pair.0; place = pair.1 }

pub position_exact : CmpEqualImpliesEq position_cmp
position_exact p q e = ap position_of (exact_pairs nat_cmp nat_cmp exact_unsigned exact_unsigned (p.node, p.place) (q.node, q.place) e)
