-- Where the rules delete nothing more.
use Rattle.std.specs.Prelude.{ℕ, ◌≡◌, Bool, Option, List, length}
use Rattle.std.specs.Global.{Vec}
use Rattle.tableau_graph.specs.Graph.{graph_of}
use Rattle.tableau_graph.specs.TableauParts.{IsWhole, TableauParts}
use Rattle.deletion_rules.specs.Deletion.{IsKept, AreLeastRanks}
use Rattle.deletion_rules.specs.Marks.{lists_of, lives_of, ranks_of}
use Rattle.deletion_rules.specs.Met.{MetLive}

-- the nodes that live are kept, with the marks as least ranks, and in a whole tableau all that is met lives
pub record IsLasting (t : TableauParts) (lives : List Bool) (table : List (Vec (Option ℕ))) : Type 0 where
  pub long : length lives ≡ length t.ands
  pub kept : IsKept t.closure (graph_of t) (lives_of lives) (ranks_of (lists_of table))
  pub least : AreLeastRanks t.closure (graph_of t) (lives_of lives) (ranks_of (lists_of table))
  pub met : IsWhole t → MetLive t.a t.b t.closure (graph_of t) (lives_of lives)
