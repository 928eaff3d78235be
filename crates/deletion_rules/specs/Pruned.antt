-- What is left of a tableau, with its ranks; or nothing.
use Rattle.std.specs.Prelude.{ℕ, ◌≡◌, Bool, Option, List, length}
use Rattle.pair_structure.specs.Structure.{Structure, IsOver}
use Rattle.closure_sets.specs.Cover.{HoldsWhole}
use Rattle.tableau_graph.specs.Graph.{graph_of}
use Rattle.tableau_graph.specs.TableauParts.{TableauParts}
use Rattle.deletion_rules.specs.Deletion.{IsKept, LivesOr, AreLeastRanks}
use Rattle.deletion_rules.specs.Satisfying.{Satisfies}
use Rattle.deletion_rules.specs.Marks.{lives_of, ranks_of}

-- the tableau, which AND nodes live, and the marks of each member
pub record RankParts : Type 0 where
  pub tableau : TableauParts
  pub lives : List Bool
  pub table : List (List (Option ℕ))

-- the node lives, and the rank of a member there
abbrev pub lives_at : RankParts → ℕ → Bool
lives_at r n = lives_of r.lives n

abbrev pub rank_at : RankParts → ℕ → ℕ → Option ℕ
rank_at r n u = ranks_of r.table n u

-- the rules delete nothing more, the ranks fall and are the least, and the root lives
pub record AreRanksOf (r : RankParts) : Type 0 where
  pub long : length r.lives ≡ length r.tableau.ands
  pub kept : IsKept r.tableau.closure (graph_of r.tableau) (lives_at r) (rank_at r)
  pub least : AreLeastRanks r.tableau.closure (graph_of r.tableau) (lives_at r) (rank_at r)
  pub root : LivesOr (graph_of r.tableau) (lives_at r) 0

-- no structure over the roles makes all roots true at its state 0
abbrev pub IsUnsatisfiable : TableauParts → Type 0
IsUnsatisfiable t = (m : Structure) → IsOver t.a t.b m → HoldsWhole m t.closure 0 ((graph_of t).seed 0) → ⊥

-- some structure over the roles makes all roots true at its state 0
abbrev pub IsSatisfiable : TableauParts → Type 0
IsSatisfiable t = (m : Structure) × Satisfies t.a t.b t.closure m
