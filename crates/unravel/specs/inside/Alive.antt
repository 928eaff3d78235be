-- What is left of a tableau, as the ranks tell it.
use Rattle.tableau_graph.specs.Graph.{graph_of}
use Rattle.tableau_graph.specs.Rules.{IsTableau}
use Rattle.deletion_rules.specs.Deletion.{IsKept, LivesOr}
use Rattle.deletion_rules.specs.Pruned.{RankParts, lives_at, rank_at}

-- the tableau is one, the rules delete nothing more, and the root has a living child
pub record IsAlive (r : RankParts) : Type 0 where
  pub tableau : IsTableau r.tableau
  pub kept : IsKept r.tableau.closure (graph_of r.tableau) (lives_at r) (rank_at r)
  pub root : LivesOr (graph_of r.tableau) (lives_at r) 0
