use Rattle.std.proofs.Common.{◌<◌, length, subst}
use Rattle.pair_structure.specs.declared.side.Side.TheVariants.{A, B}
use Rattle.closure_sets.specs.ClosureParts.{ClosureParts}
use Rattle.closure_sets.proofs.closure.Closure.some_move.Goals as goal

pub returns-in-A-clause-member : goal.returns-in-A-clause-member
returns-in-A-clause-member c = subst (λ (v : ClosureParts). c.self.inside.some_a < length v.parts) c.self.view_is (c.self.invariant.moves.3 A).0

pub returns-in-B-clause-member : goal.returns-in-B-clause-member
returns-in-B-clause-member c = subst (λ (v : ClosureParts). c.self.inside.some_b < length v.parts) c.self.view_is (c.self.invariant.moves.3 B).0
