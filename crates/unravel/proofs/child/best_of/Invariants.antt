use Rattle.std.proofs.Common.{◌≡◌, ◌<◌, None, IfSome, length, drop}
use Rattle.deletion_rules.specs.Pruned.{lives_at, rank_at}
use Rattle.unravel.specs.inside.Choice.{best_from}
use Rattle.unravel.proofs.child.best_of.Given as goal

abbrev pub invariant-loop-node : goal.invariant-loop-node
invariant-loop-node l = IfSome l.best (λ b. b < length l.ranks.tableau.ands) × (best_from (lives_at l.ranks) (λ n. rank_at l.ranks n l.member) l.best (drop l.node-index l.nodes) ≡ best_from (lives_at l.ranks) (λ n. rank_at l.ranks n l.member) None l.nodes)
