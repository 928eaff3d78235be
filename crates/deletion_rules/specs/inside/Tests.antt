-- What the code computes of a tableau's nodes, in its own order.
use Rattle.std.specs.Prelude.{ℕ, ◌≡◌, ◌<◌, Bool, false, ◌&&◌, Option, List, length, is_none}
use Rattle.std.specs.List.{list_any, list_all}
use Rattle.tableau_graph.specs.TableauParts.{TableauParts, and_at, edges_at, row_of}
use Rattle.deletion_rules.specs.inside.Cursors.{flag_of}
use Rattle.deletion_rules.specs.Marks.{lives_of, ranks_of}
use Rattle.deletion_rules.specs.Targets.{target_in}
use Rattle.deletion_rules.specs.declared.target.Target.{Target}

abbrev pub has_member : TableauParts → ℕ → ℕ → Bool
has_member t n i = row_of (and_at t.ands n) i

-- whether the node lives, and has the target and its part g
abbrev pub is_met : TableauParts → List Bool → Target → ℕ → Bool
is_met t lives target n = lives_of lives n && has_member t n target.member && has_member t n target.g

-- a living child of the OR node
abbrev pub lives_or : TableauParts → List Bool → ℕ → Bool
lives_or t lives o = list_any (lives_of lives) (edges_at t.children o)

-- which of the first k OR nodes have a living child
pub record AreLivingOrs (t : TableauParts) (lives : List Bool) (k : ℕ) (ors : List Bool) : Type 0 where
  pub long : length ors ≡ k
  pub each : (o : ℕ) → o < k → flag_of ors o ≡ lives_or t lives o

-- a living child of each OR successor, by a list of the OR nodes that have one
abbrev pub lives_on : TableauParts → List Bool → ℕ → Bool
lives_on t ors n = list_all (flag_of ors) (edges_at t.successors n)

-- a member of the row that has no mark
abbrev pub is_missing : TableauParts → List (List (Option ℕ)) → ℕ → ℕ → Bool
is_missing t table n u = has_member t n u && is_none (ranks_of table n u)

-- each of the first k targets has a mark at the node, or is not in its row
abbrev pub NoneMissing : TableauParts → List (List (Option ℕ)) → ℕ → ℕ → List Target → Type 0
NoneMissing t table n k targets = (y : ℕ) → y < k → is_missing t table n (target_in targets y).member ≡ false
