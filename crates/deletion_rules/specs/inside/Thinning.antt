-- Deletion of nodes of which a successor has no living child.
use Rattle.std.specs.Prelude.{ℕ, ◌≡◌, ◌<◌, ◌+◌, Bool, true, false, not, List, Contains, count_by, length}
use Rattle.tableau_graph.specs.Graph.{graph_of}
use Rattle.tableau_graph.specs.TableauParts.{IsWhole, TableauParts}
use Rattle.deletion_rules.specs.inside.Cursors.{AreCursors}
use Rattle.deletion_rules.specs.Deletion.{LivesOr}
use Rattle.deletion_rules.specs.inside.Edges.{IsArrow}
use Rattle.deletion_rules.specs.Marks.{lives_of}
use Rattle.deletion_rules.specs.Met.{MetLive}
use Rattle.deletion_rules.specs.declared.edges.Arrow.{Arrow}
use Rattle.deletion_rules.specs.declared.thinning.Thinning.{Thinning}

-- nodes were deleted; if in a whole tableau all that is met lived before, it does so still
pub record IsThinned (t : TableauParts) (lives left : List Bool) : Type 0 where
  pub long : length left ≡ length lives
  pub within : (n : ℕ) → lives_of left n ≡ true → lives_of lives n ≡ true
  pub met : IsWhole t → MetLive t.a t.b t.closure (graph_of t) (lives_of lives) → MetLive t.a t.b t.closure (graph_of t) (lives_of left)

-- the OR node has no living child
abbrev pub IsLost : TableauParts → List Bool → ℕ → Type 0
IsLost t lives o = LivesOr (graph_of t) (lives_of lives) o → ⊥

-- so is each of these
abbrev pub AreLost : TableauParts → List Bool → List ℕ → Type 0
AreLost t lives ors = (o : ℕ) → Contains ors o → (o < length t.ors) × IsLost t lives o

-- the arrow leads to an OR node without a living child
abbrev pub IsLosing : TableauParts → List Bool → Arrow → Type 0
IsLosing t lives arrow = (o : ℕ) × IsArrow t o arrow × IsLost t lives o

-- a flag for each node and each OR node, and cursors that have passed children that are deleted
pub record IsThinning (t : TableauParts) (thinning : Thinning) : Type 0 where
  pub long_lives : length thinning.lives.items ≡ length t.ands
  pub long_lost : length thinning.lost.items ≡ length t.ors
  pub cursors : AreCursors (length t.ors) t.children thinning.lives.items false thinning.cursors.items

-- OR nodes without a living child that were not found before were put behind the others of the list
pub record Loses (t : TableauParts) (before : Thinning) (old : List ℕ) (after : Thinning) (new : List ℕ) : Type 0 where
  pub thinning : IsThinning t after
  pub kept : after.lives.items ≡ before.lives.items
  pub lost : AreLost t before.lives.items old → AreLost t before.lives.items new
  pub fewer : count_by not after.lost.items + length new ≡ count_by not before.lost.items + length old

-- numbers of AND nodes
abbrev pub AreNodes : TableauParts → List ℕ → Type 0
AreNodes t nodes = (n : ℕ) → Contains nodes n → n < length t.ands

-- nodes were deleted and put behind the others of the list
pub record Deletes (t : TableauParts) (before : Thinning) (old : List ℕ) (after : Thinning) (new : List ℕ) : Type 0 where
  pub thinning : IsThinning t after
  pub thinned : IsThinned t before.lives.items after.lives.items
  pub kept : after.lost.items ≡ before.lost.items
  pub nodes : AreNodes t old → AreNodes t new
