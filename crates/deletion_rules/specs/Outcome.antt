-- What pruning answers.
use Rattle.std.specs.Prelude.{◌≡◌}
use Rattle.tableau_graph.specs.TableauParts.{IsWhole, TableauParts}
use Rattle.deletion_rules.specs.Pruned.{AreRanksOf, IsSatisfiable, IsUnsatisfiable, lives_at}
use Rattle.deletion_rules.specs.declared.pruning.Pruned.{Pruned}
use Rattle.deletion_rules.specs.declared.pruning.Pruned.TheVariants.{Alive, Dead}
use Rattle.deletion_rules.specs.Met.{MetLive}
use Rattle.tableau_graph.specs.Graph.{graph_of}

-- the tableau with the nodes that are left and their ranks, in a whole one each node that a state meets among them, where some structure over the roles satisfies the conjuncts; or none is left, and of a whole one none does
abbrev pub IsPruned : TableauParts → Pruned → Type 0
IsPruned t (Alive r) = (r.tableau ≡ t) × AreRanksOf r × (IsWhole t → MetLive t.a t.b t.closure (graph_of t) (lives_at r)) × IsSatisfiable t
IsPruned t Dead = IsWhole t → IsUnsatisfiable t
