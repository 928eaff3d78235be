use Rattle.std.proofs.Common.{[]}
use Rattle.deletion_rules.specs.inside.Spread.{Reaching}
use Rattle.deletion_rules.proofs.ReachingLaws.{IsParentBefore}
use Rattle.deletion_rules.proofs.reaching.reach.Given as goal

abbrev pub invariant-loop-node : goal.invariant-loop-node
invariant-loop-node l = Reaching (IsParentBefore l.parents l.nodes l.node-index) l.initial.reached [] l.reached l.fresh.items
