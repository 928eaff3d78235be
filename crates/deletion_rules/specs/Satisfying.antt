-- From nodes that are kept to a structure.
use Rattle.std.specs.Prelude.{ℕ, Bool, Option, Contains, All}
use Rattle.pair_structure.specs.Role.{RoleParts}
use Rattle.pair_structure.specs.Structure.{Structure, IsOver}
use Rattle.closure_sets.specs.ClosureParts.{ClosureParts}
use Rattle.closure_sets.specs.Cover.{IsTrueAt}
use Rattle.tableau_graph.specs.Rules.{IsTableau}
use Rattle.tableau_graph.specs.TableauParts.{TableauParts}
use Rattle.tableau_graph.specs.Graph.{graph_of}
use Rattle.deletion_rules.specs.Deletion.{IsKept, LivesOr}
use Rattle.deletion_rules.specs.Unravel.{Plan, IsUnravelled}
use Rattle.deletion_rules.specs.declared.position.Position.{Position}

-- a structure over the roles in which the conjuncts, that is all roots, are true at state 0
pub record Satisfies (a b : RoleParts) (c : ClosureParts) (m : Structure) : Type 0 where
  pub over : IsOver a b m
  pub roots : All (IsTrueAt m c 0) c.roots

-- A structure unravelled from a tableau, whose state 0 is a child of the root, satisfies the conjuncts.
abbrev pub UnravelledSatisfies : Type 0
UnravelledSatisfies = (t : TableauParts) → IsTableau t → (m : Structure) (plan : Plan) (at : ℕ → Position) → IsOver t.a t.b m → IsUnravelled t.closure (graph_of t) m plan at → Contains ((graph_of t).children 0) (at 0).node → Satisfies t.a t.b t.closure m

-- Where the rules delete nothing from a set of nodes in which the root has a child, some structure satisfies the conjuncts.
abbrev pub KeptIsSatisfiable : Type 0
KeptIsSatisfiable = (t : TableauParts) → IsTableau t → (lives : ℕ → Bool) (rank : ℕ → ℕ → Option ℕ) → IsKept t.closure (graph_of t) lives rank → LivesOr (graph_of t) lives 0 → (m : Structure) × Satisfies t.a t.b t.closure m
